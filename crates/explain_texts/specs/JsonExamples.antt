-- helper
-- Examples of lines of JSON, and of their values.
use Rattle.std.specs.Prelude.{codes, ◌≡◌, [], ◌∷◌, Ok, Err, refl}
use Rattle.std.specs.Fmt.{digits}
use Rattle.dp_audit.specs.declared.fault.AuditFault.TheVariants as faults
use Rattle.explain_texts.specs.Json.{entry_front, verdict_json, verdict_line}
use Rattle.explain_texts.specs.JsonValues.{array_json, string_json}

pub a_string : string_json (codes "held by nobody") ≡ codes "\"held by nobody\""
unfolding string_json
a_string = refl

pub octets_that_are_not_plain : string_json (34 ∷ 92 ∷ 10 ∷ 31 ∷ 32 ∷ 126 ∷ 127 ∷ 255 ∷ []) ≡ codes "\"\\u0022\\u005c\\u000a\\u001f ~\\u007f\\u00ff\""
unfolding string_json
octets_that_are_not_plain = refl

pub no_values : array_json [] ≡ codes "[]"
unfolding array_json
no_values = refl

pub a_front : entry_front 72 ≡ codes "{\"version\":2,\"kind\":\"entry\",\"place\":72"
unfolding digits
a_front = refl

pub legal : verdict_line (Ok 31) ≡ codes "{\"version\":2,\"kind\":\"verdict\",\"verdict\":\"legal\",\"entries\":31}\n"
unfolding digits
legal = refl

pub a_bad_line : verdict_line (Err (faults.BadLine 1)) ≡ codes "{\"version\":2,\"kind\":\"verdict\",\"verdict\":\"bad line\",\"row\":1}\n"
unfolding digits
a_bad_line = refl

pub not_the_policy : verdict_line (Err (faults.NotThePolicy 7)) ≡ codes "{\"version\":2,\"kind\":\"verdict\",\"verdict\":\"not the policy\",\"row\":7}\n"
unfolding digits
not_the_policy = refl

pub a_verdict_of_a_judge : verdict_json (Ok 31) ≡ codes "{\"verdict\":\"legal\",\"entries\":31}\n"
unfolding digits
a_verdict_of_a_judge = refl
