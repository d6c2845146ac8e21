-- promise
-- The function code of a telegram (IEC 61158-4-3, function code).
use Rattle.std.specs.Prelude.{ℕ, ◌/◌, ◌%◌, ◌^◌, ◌==◌, Bool, true, false, if◌then◌else◌, List, [], ◌∷◌}
use Rattle.dp_telegram.specs.declared.function_code.Function.{Function}
use Rattle.dp_telegram.specs.declared.function_code.Function.TheVariants.{SdaLow, SdnLow, SdaHigh, SdnHigh, FdlStatus, SrdLow, SrdHigh, Ident, LsapStatus, Reserved}

-- a bit of an octet is 1, by the bit's number
abbrev pub is_set : ℕ → ℕ → Bool
is_set number octet = octet / 2 ^ number % 2 == 1

-- bit 6: a request, not a response; bit 7 is ignored (own)
abbrev pub is_request : ℕ → Bool
is_request fc = is_set 6 fc

-- bit 5, FCB: it alternates from request to request
abbrev pub frame_count_bit : ℕ → Bool
frame_count_bit fc = is_set 5 fc

-- bit 4, FCV: FCB is valid
abbrev pub frame_count_is_valid : ℕ → Bool
frame_count_is_valid fc = is_set 4 fc

-- the functions of a request by their numbers
abbrev pub functions : List (ℕ × Function)
functions =
    (3, SdaLow)
    ∷ (4, SdnLow)
    ∷ (5, SdaHigh)
    ∷ (6, SdnHigh)
    ∷ (9, FdlStatus)
    ∷ (12, SrdLow)
    ∷ (13, SrdHigh)
    ∷ (14, Ident)
    ∷ (15, LsapStatus)
    ∷ []

-- the function of a number by these rows; every other number is treated as reserved (own)
abbrev pub numbered : List (ℕ × Function) → ℕ → Function
numbered [] number = Reserved
numbered (row ∷ rows) number = if number == row.0 then row.1 else numbered rows number

-- bits 3 to 0: the function of a request
abbrev pub function_of : ℕ → Function
function_of fc = numbered functions (fc % 16)

-- what a request asks for by its function
pub data Asked : Type 0 where
  -- SRD: data are sent and requested with a reply, at low or high priority
  srd : Asked
  -- SDN: data are sent with no acknowledge, at low or high priority
  sdn : Asked
  -- the FDL status
  status : Asked
  -- Send Data with Acknowledge, Request Ident and Request LSAP Status: no slave serves them (own)
  unserved : Asked
  -- no function of this profile (own)
  reserved : Asked

abbrev pub asked : Function → Asked
asked SrdLow = srd
asked SrdHigh = srd
asked SdnLow = sdn
asked SdnHigh = sdn
asked FdlStatus = status
asked Reserved = reserved
asked other = unserved

abbrev pub is_srd : Asked → Bool
is_srd srd = true
is_srd other = false

abbrev pub is_sdn : Asked → Bool
is_sdn sdn = true
is_sdn other = false

abbrev pub is_status : Asked → Bool
is_status status = true
is_status other = false

abbrev pub is_unserved : Asked → Bool
is_unserved unserved = true
is_unserved other = false

abbrev pub is_reserved : Asked → Bool
is_reserved reserved = true
is_reserved other = false

abbrev pub asks_srd : Function → Bool
asks_srd function = is_srd (asked function)

abbrev pub asks_sdn : Function → Bool
asks_sdn function = is_sdn (asked function)

abbrev pub asks_fdl_status : Function → Bool
asks_fdl_status function = is_status (asked function)

abbrev pub asks_unserved : Function → Bool
asks_unserved function = is_unserved (asked function)

abbrev pub asks_reserved : Function → Bool
asks_reserved function = is_reserved (asked function)

-- the functions of a response: OK, user error, no resource, service not activated, data low, data high
abbrev pub ok : ℕ
ok = 0x00

abbrev pub user_error : ℕ
user_error = 0x01

abbrev pub no_resource : ℕ
no_resource = 0x02

abbrev pub not_activated : ℕ
not_activated = 0x03

abbrev pub data_low : ℕ
data_low = 0x08

abbrev pub data_high : ℕ
data_high = 0x0A
