use Rattle.toml.specs.Parse.{parse_document}
use Rattle.rack_file.proofs.Rows.{refused, not_refused}
use Rattle.rack_file.proofs.laws.causes_are_reported_of_bad_keys_and_of_no_toml.Goals as goal

pub returns-clause-reported : goal.returns-clause-reported
returns-clause-reported c = λ text cause reports. refused text (parse_document text) cause reports

pub returns-clause-unreported : goal.returns-clause-unreported
returns-clause-unreported c = λ text reports. not_refused text (parse_document text) reports
