-- detail
-- The rack that a rack file describes (own).
use Rattle.std.specs.Prelude.{ℕ, ◌+◌, false, nat_le, if◌then◌else◌, List, [], ◌∷◌, length, map, codes, Option, Some, None, Result, Ok, Err}
use Rattle.std.specs.Str.{bytes_eq}
use Rattle.arrayvec.specs.ArrayVec.{ArrayVec}
use Rattle.toml.specs.Data.{Data, Members}
use Rattle.toml.specs.Parse.{parse_document}
use Rattle.dp_slave.specs.declared.description.SlaveSpec.{SlaveSpec}
use Rattle.dp_slave.specs.declared.description.Device.{Device}
use Rattle.dp_slave.specs.declared.description.Device.TheVariants.{Still, Counter, Mirror}
use Rattle.dp_line.specs.declared.fault.OpenFault.{OpenFault}
use Rattle.dp_line.specs.World.{opening_fault, has_twice}
use Rattle.rack_file.specs.declared.fault.RackFault.{RackFault}
use Rattle.rack_file.specs.declared.fault.RackFault.TheVariants as faults
use Rattle.rack_file.specs.declared.misread.Place.{Place}
use Rattle.rack_file.specs.declared.misread.Place.TheVariants.{Rack, Line, Slave}
use Rattle.rack_file.specs.declared.misread.Cause.{Cause}
use Rattle.rack_file.specs.declared.misread.Cause.TheVariants.{ManyOctets, NoDevice}
use Rattle.rack_file.specs.declared.misread.Misread.{Misread}
use Rattle.rack_file.specs.declared.misread.Misread.TheVariants as misreads
use Rattle.rack_file.specs.Misreads.{fault_of}
use Rattle.rack_file.specs.Rack.{LineDescription, RackDescription}
use Rattle.rack_file.specs.TomlKeys.{◌>>=◌, at_key, only, required, optional, array_of, text_or_array_of, counted, table_of, flag_of, text_of, number_from, octets_of, each_of, each_from}

-- ---- masters

-- masters by their addresses, at most 16, in the order of the file; a duplicate address stays
unfoldable pub masters_of : Data → Result (List ℕ) Cause
masters_of value = do
  all ← array_of value
  values ← counted 0 16 all
  each_of (number_from 0 255) values

-- ---- [[line.slave]]

-- a configuration: at most 244 octets
unfoldable pub configuration_of : Data → Result (ArrayVec ℕ) Cause
configuration_of value = do
  octets ← octets_of value
  if nat_le (length octets) 244 then Ok (record { items = octets }) else Err ManyOctets

-- a slave's configurations, numbered from 0 in the order of the file: one as a text, or 1 to 4 of them as an array
unfoldable pub configurations_of : Data → Result (List (ArrayVec ℕ)) Cause
configurations_of value = do
  all ← text_or_array_of value
  values ← counted 1 4 all
  each_of configuration_of values

-- a device, by its name
abbrev pub device_named : List ℕ → Result Device Cause
device_named name =
    if bytes_eq name (codes "still") then Ok Still
    else if bytes_eq name (codes "counter") then Ok Counter
    else if bytes_eq name (codes "mirror") then Ok Mirror
    else Err NoDevice

-- the device that updates a slave's inputs
unfoldable pub device_of : Data → Result Device Cause
device_of value = text_of value >>= device_named

-- a list of masters; an empty array is a list too
unfoldable pub list_of : Data → Result (Option (ArrayVec ℕ)) Cause
list_of value = do
  masters ← masters_of value
  Ok (Some (record { items = masters }))

abbrev pub slave_keys : List (List ℕ)
slave_keys =
    codes "address" ∷ codes "ident" ∷ codes "cfg" ∷ codes "sync" ∷ codes "freeze" ∷ codes "user_max" ∷ codes "device" ∷ codes "lockers"
    ∷ codes "readers" ∷ codes "failsafe" ∷ []

-- the slave that the table in this place describes
unfoldable pub slave_of : Place → Members → Result SlaveSpec Misread
slave_of place slave = do
  _ ← only place slave_keys slave
  address ← required (number_from 0 255) place (codes "address") slave
  ident ← required (number_from 0 65535) place (codes "ident") slave
  cfgs ← required configurations_of place (codes "cfg") slave
  sync ← optional false flag_of place (codes "sync") slave
  freeze ← optional false flag_of place (codes "freeze") slave
  user_max ← optional 237 (number_from 0 255) place (codes "user_max") slave
  device ← optional Still device_of place (codes "device") slave
  lockers ← optional None list_of place (codes "lockers") slave
  readers ← optional None list_of place (codes "readers") slave
  failsafe ← optional false flag_of place (codes "failsafe") slave
  Ok (record {
    address = address;
    ident = ident;
    cfgs = record { items = cfgs };
    sync = sync;
    freeze = freeze;
    user_max = user_max;
    device = device;
    lists = record { lockers = lockers; readers = readers };
    failsafe = failsafe;
  })

-- the slave described by the element at this position of `slave`, of the line at this position
unfoldable pub slave_at : ℕ → ℕ → Data → Result SlaveSpec Misread
slave_at line position value = do
  slave ← at_key (Line line) (codes "slave") (table_of value)
  slave_of (Slave line position) slave

-- ---- [[line]]

-- the slaves of the line at this position
unfoldable pub slaves_of : ℕ → Members → Result (List SlaveSpec) Misread
slaves_of position line = do
  values ← required array_of (Line position) (codes "slave") line
  each_from (slave_at position) 1 values

-- a port where a line listens
unfoldable pub port_of : Data → Result (Option ℕ) Cause
port_of value = do
  port ← number_from 0 65535 value
  Ok (Some port)

abbrev pub line_keys : List (List ℕ)
line_keys =
    codes "number" ∷ codes "capacity" ∷ codes "masters" ∷ codes "listen" ∷ codes "operator" ∷ codes "slave" ∷ []

-- the line at this position, which the table describes
unfoldable pub line_of : ℕ → Members → Result LineDescription Misread
line_of position line = do
  _ ← only (Line position) line_keys line
  number ← required (number_from 0 255) (Line position) (codes "number") line
  capacity ← required (number_from 0 4294967295) (Line position) (codes "capacity") line
  masters ← required masters_of (Line position) (codes "masters") line
  slaves ← slaves_of position line
  listen ← optional None port_of (Line position) (codes "listen") line
  operator ← optional None port_of (Line position) (codes "operator") line
  Ok (record {
    line = record { number = number; capacity = capacity; masters = masters; slaves = slaves };
    listen = listen;
    operator = operator;
  })

-- the line described by the element at this position of `line`
unfoldable pub line_at : ℕ → Data → Result LineDescription Misread
line_at position value = do
  line ← at_key Rack (codes "line") (table_of value)
  line_of position line

-- ---- the file

-- the lines of a rack, 1 to 8
unfoldable pub lines_of : Members → Result (List LineDescription) Misread
lines_of file = do
  all ← required array_of Rack (codes "line") file
  values ← at_key Rack (codes "line") (counted 1 8 all)
  each_from line_at 1 values

-- the numbers of the lines
abbrev pub numbers : List LineDescription → List ℕ
numbers lines = map (λ line. line.line.number) lines

-- no two lines have the same number
abbrev pub numbers_differ : List LineDescription → Result (Unit {0}) Misread
numbers_differ lines = if has_twice (numbers lines) then Err misreads.TwiceLine else Ok tt

-- a line at this position can be opened, or is refused for this reason
abbrev pub opened : ℕ → Option OpenFault → Result (Unit {0}) Misread
opened position None = Ok tt
opened position (Some fault) = Err (misreads.Open position fault)

-- every line can be opened; the first of them is at this position
unfoldable pub all_open : ℕ → List LineDescription → Result (Unit {0}) Misread
all_open position [] = Ok tt
all_open position (line ∷ lines) = do
  _ ← opened position (opening_fault line.line)
  all_open (position + 1) lines

abbrev pub rack_keys : List (List ℕ)
rack_keys = codes "workers" ∷ codes "line" ∷ []

-- the rack that a document describes, or the reason why it describes none
unfoldable pub rack_of : Members → Result RackDescription Misread
rack_of file = do
  _ ← only Rack rack_keys file
  workers ← optional 4 (number_from 1 32) Rack (codes "workers") file
  lines ← lines_of file
  _ ← numbers_differ lines
  _ ← all_open 1 lines
  Ok (record { workers = workers; lines = lines })

-- the rack that a document describes, or the fault of the rack file
abbrev pub with_fault : {A : Type 0} → Result A Misread → Result A RackFault
with_fault (Ok rack) = Ok rack
with_fault (Err misread) = Err (fault_of misread)

-- the rack that a document describes, or the fault; None is a text that is no document
abbrev pub rack_of_document : Option Members → Result RackDescription RackFault
rack_of_document None = Err faults.NotToml
rack_of_document (Some file) = with_fault (rack_of file)

-- the rack that a text describes, or the reason why it isn't accepted
abbrev pub rack_in : List ℕ → Result RackDescription RackFault
rack_in text = rack_of_document (parse_document text)
