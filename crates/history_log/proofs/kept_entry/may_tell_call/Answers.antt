use Rattle.std.specs.List.{list_all}
use Rattle.std.proofs.Common.{◌≤◌, ap, sym, ◌∙◌, arith}
use Rattle.history_log.specs.Entries.{is_shallow}
use Rattle.history_log.proofs.ReadBack.{call_back}
use Rattle.history_log.proofs.kept_entry.may_tell_call.Goals as goal

pub returns-then-are_shallow : goal.returns-then-are_shallow
returns-then-are_shallow c told session method =
    let few : c.args.k ≤ 9007199254740991 = omega (arith, c.if-k-gt-MAX_NUMBER.false) in
    let low = ap (λ vs. list_all (λ v. is_shallow v) vs) (sym c.as_slice.ensures) ∙ sym c.are_shallow.ensures ∙ c.if-are_shallow.true in
    call_back session c.args.k method c.args.params.now c.args.seed.now few c.known.ensures low c.known-2.ensures (sym c.is_shallow.ensures ∙ told)
