use Rattle.std.proofs.Common.{ℕ, List, sym, subst}
use Rattle.std.specs.Io.{StopsAt}
use Rattle.dp_audit.specs.FirstWrong.{HasNoLf}
use Rattle.audit_parts.proofs.Filtering.{ends_on, kept_on, stops}
use Rattle.audit_parts.proofs.entry_filter.EntryFilter.read_on.Goals as goal

pub returns-in-Ok-clause-one : goal.returns-in-Ok-clause-one
returns-in-Ok-clause-one g c =
    stops c.args.self.now.row.items c.read_until.new.buf.items
    (subst HasNoLf c.as_slice.ensures.value (c.in-None.ensures.no_lf (subst (λ (row : List ℕ). StopsAt row 10) (sym c.as_slice.ensures.value) c.requires)))
    c.read_until.ensures.appends c.read_until.ensures.stops

pub returns-in-Ok-clause-end : goal.returns-in-Ok-clause-end
returns-in-Ok-clause-end g c = ends_on _ _ c.args.self.now.row.items c.read_until.new.buf.items c.in-Ok.ensures.bytes c.in-Ok.ensures.rest

pub returns-in-Err-clause-one : goal.returns-in-Err-clause-one
returns-in-Err-clause-one g c =
    stops c.args.self.now.row.items c.read_until.new.buf.items
    (subst HasNoLf c.as_slice.ensures.value (c.in-None.ensures.no_lf (subst (λ (row : List ℕ). StopsAt row 10) (sym c.as_slice.ensures.value) c.requires)))
    c.read_until.ensures.appends c.read_until.ensures.stops

pub returns-in-Err-clause-kept : goal.returns-in-Err-clause-kept
returns-in-Err-clause-kept g c =
    kept_on (g.R.Read.remaining c.args.reader.now) (g.R.Read.remaining c.read_until.new.self) c.args.self.now.row.items c.read_until.new.buf.items
    c.read_until.ensures.appends c.read_until.ensures.none_lost
