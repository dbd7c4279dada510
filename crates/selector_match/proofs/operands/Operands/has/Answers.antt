use Rattle.std.proofs.Common.{◌≡◌, ◌<◌, false, Option, Some, None, is_some, unwrap_or, length, get_or, sym, ◌∙◌, arith}
use Rattle.std.specs.Prelude.{MatchOption, ℕ, List}
use Rattle.std.specs.List.{list_any}
use Rattle.std.specs.Ordering.{is_eq}
use Rattle.value_model.specs.Val.{Val, null}
use Rattle.value_model.specs.Order.{compare}
use Rattle.ejson_value.specs.View.{views}
use Rattle.selector_match.specs.Reached.{reached_view}
use Rattle.selector_match.specs.Operands.{PassAlike}
use Rattle.selector_match.proofs.Rising.{is_found, length-views}
use Rattle.selector_match.proofs.operands.Operands.has.Goals as goal

by_place : (vs ws : List Val) (v : Val) (place : Option ℕ) (n : ℕ) → n ≡ length ws → PassAlike vs ws → MatchOption place (list_any (λ w. is_eq (compare v w)) ws ≡ false) (λ k. (k < n) × (get_or ws k null ≡ v)) → is_some place ≡ list_any (λ w. is_eq (compare v w)) vs
by_place vs ws v None n is alike none = sym (alike (λ w. is_eq (compare v w)) ∙ none)
by_place vs ws v (Some k) n is alike at = is_found vs ws v k alike (omega (arith, is, at.0)) at.1

pub returns : goal.returns
returns c =
    c.is_some.ensures
    ∙ by_place c.args.self.now (views c.rising.result.now) (unwrap_or (reached_view c.args.reached) null) c.place_of.result (length c.rising.result.now) (sym (length-views c.rising.result.now)) c.rising.ensures.alike c.place_of.ensures
