use Rattle.dp_line.proofs.ServicesDone.{done_record, done_reply}
use Rattle.dp_line.proofs.laws.a_request_does_its_service.Goals as goal

pub returns-clause-record : goal.returns-clause-record
returns-clause-record c = done_record c.relation_and_computation_agree.ensures

pub returns-clause-reply : goal.returns-clause-reply
returns-clause-reply c = done_reply c.relation_and_computation_agree.ensures
