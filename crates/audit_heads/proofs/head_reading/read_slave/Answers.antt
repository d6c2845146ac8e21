use Rattle.std.proofs.Common.{◌≡◌, ℕ, Err, Result, ap, ◌∙◌, rules}
use Rattle.dp_slave.specs.SlaveParts.{SlaveParts}
use Rattle.audit_heads.specs.Reading.{slave_as}
use Rattle.audit_heads.proofs.SlaveGroups.{after_data, after_memory, failed_data, failed_memory, not_restored, restored}
use Rattle.audit_heads.proofs.head_reading.read_slave.Goals as goal

pub returns-in_err-inputs : goal.returns-in_err-inputs
returns-in_err-inputs c =
    let number : ℕ = c.in_err-inputs.field-0.0 in
    let result : c.from_residual-in_err-inputs.result ≡ Err number = search rules in
    ap (λ (r : Result SlaveParts ℕ). slave_as r c.read_data_rows.new.rows) result
    ∙ failed_data c.args.masters.now c.args.description.now c.args.rows.now c.read_lock.new.rows c.read_data_rows.new.rows c.read_lock.result c.in_ok-hold_state.field-0 c.read_data_rows.result number
    c.read_lock.ensures c.in_ok-hold_state.was c.read_data_rows.ensures c.in_err-inputs.was

pub returns-in_err-memory : goal.returns-in_err-memory
returns-in_err-memory c =
    let number : ℕ = c.in_err-memory.field-0.0 in
    let result : c.from_residual-in_err-memory.result ≡ Err number = search rules in
    ap (λ (r : Result SlaveParts ℕ). slave_as r c.read_memory.new.rows) result
    ∙ failed_memory c.args.masters.now c.args.description.now c.args.rows.now c.read_data_rows.new.rows c.read_memory.new.rows c.in_ok-hold_state.field-0 c.in_ok-inputs.field-0 c.of_no_master.result c.read_memory.result number
    (after_data c.args.masters.now c.args.description.now c.args.rows.now c.read_lock.new.rows c.read_data_rows.new.rows c.read_lock.result c.in_ok-hold_state.field-0 c.read_data_rows.result c.in_ok-inputs.field-0
    c.read_lock.ensures c.in_ok-hold_state.was c.read_data_rows.ensures c.in_ok-inputs.was)
    c.of_no_master.ensures c.read_memory.ensures c.in_err-memory.was

pub returns-in-Some : goal.returns-in-Some
returns-in-Some c =
    restored c.args.masters.now c.args.description.now c.args.rows.now c.read_memory.new.rows _ c.restore.result c.in-Some.slave
    (after_memory c.args.masters.now c.args.description.now c.args.rows.now c.read_data_rows.new.rows c.read_memory.new.rows c.in_ok-hold_state.field-0 c.in_ok-inputs.field-0 c.of_no_master.result c.read_memory.result c.in_ok-memory.memory
    (after_data c.args.masters.now c.args.description.now c.args.rows.now c.read_lock.new.rows c.read_data_rows.new.rows c.read_lock.result c.in_ok-hold_state.field-0 c.read_data_rows.result c.in_ok-inputs.field-0
    c.read_lock.ensures c.in_ok-hold_state.was c.read_data_rows.ensures c.in_ok-inputs.was)
    c.of_no_master.ensures c.read_memory.ensures c.in_ok-memory.was)
    c.restore.ensures c.in-Some.is

pub returns-in-None : goal.returns-in-None
returns-in-None c =
    not_restored c.args.masters.now c.args.description.now c.args.rows.now c.read_memory.new.rows _ c.restore.result c.number-number.result
    (after_memory c.args.masters.now c.args.description.now c.args.rows.now c.read_data_rows.new.rows c.read_memory.new.rows c.in_ok-hold_state.field-0 c.in_ok-inputs.field-0 c.of_no_master.result c.read_memory.result c.in_ok-memory.memory
    (after_data c.args.masters.now c.args.description.now c.args.rows.now c.read_lock.new.rows c.read_data_rows.new.rows c.read_lock.result c.in_ok-hold_state.field-0 c.read_data_rows.result c.in_ok-inputs.field-0
    c.read_lock.ensures c.in_ok-hold_state.was c.read_data_rows.ensures c.in_ok-inputs.was)
    c.of_no_master.ensures c.read_memory.ensures c.in_ok-memory.was)
    c.restore.ensures c.in-None.is c.number-number.ensures
