use Rattle.std.proofs.Common.{sym, ◌∙◌, unwrap_or, arith}
use Rattle.value_model.specs.Val.{null}
use Rattle.ejson_value.specs.View.{views}
use Rattle.selector_match.specs.Holds.{equals}
use Rattle.selector_match.specs.Reached.{reached_view}
use Rattle.selector_match.proofs.Rising.{length-views}
use Rattle.selector_match.proofs.Marks.{marked_one, unmarked, fails_at}
use Rattle.selector_match.proofs.marking.mark.Goals as goal

pub returns-in-Some : goal.returns-in-Some
returns-in-Some c =
    marked_one (views c.args.rising.now) c.requires.rising (unwrap_or (reached_view c.args.reached) null) c.args.marks.now c.in-Some.place (c.requires.as_many ∙ sym (length-views c.args.rising.now)) (omega (arith, c.in-Some.ensures.0, length-views c.args.rising.now)) c.in-Some.ensures.1

pub returns-in-None : goal.returns-in-None
returns-in-None c =
    unmarked (views c.args.rising.now) (λ v. equals v (reached_view c.args.reached)) c.args.marks.now (fails_at (views c.args.rising.now) (λ v. equals v (reached_view c.args.reached)) c.in-None.ensures)
