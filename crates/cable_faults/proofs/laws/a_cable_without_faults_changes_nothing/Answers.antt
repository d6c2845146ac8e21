use Rattle.cable_faults.proofs.FaultlessCables.{all_octets, faultless_treatment, none_waits}
use Rattle.cable_faults.proofs.laws.a_cable_without_faults_changes_nothing.Goals as goal

pub returns-clause-treatment : goal.returns-clause-treatment
returns-clause-treatment c = faultless_treatment

pub returns-clause-waiting : goal.returns-clause-waiting
returns-clause-waiting c = none_waits

pub returns-clause-stream : goal.returns-clause-stream
returns-clause-stream c = all_octets
