-- Parameters that tie are the same.
use Rattle.std.specs.Prelude.{◌≡◌, List, true}
use Rattle.std.specs.declared.cmp.Ordering.{Ordering}
use Rattle.std.specs.declared.cmp.Ordering.TheVariants.{Less, Equal, Greater}
use Rattle.std.specs.Ordering.{is_eq}
use Rattle.std.proofs.Common.{ap, sym, refl, ◌∙◌}
use Rattle.value_model.specs.Val.{Val, vals_of, list_of}
use Rattle.value_model.specs.ValLaws.{list_of-vals_of}
use Rattle.value_model.specs.OrderLaws.{vals_ties}
use Rattle.multiplexer.specs.Params.{params_cmp}

equal_of : (o : Ordering) → is_eq o ≡ true → o ≡ Equal
equal_of Less e = cc e
equal_of Equal e = refl
equal_of Greater e = cc e

pub params_exact : (a b : List Val) → params_cmp a b ≡ Equal → a ≡ b
params_exact a b e = sym (list_of-vals_of a) ∙ ap list_of (vals_ties (vals_of a) (vals_of b) e) ∙ list_of-vals_of b

pub params_same : (a b : List Val) → is_eq (params_cmp a b) ≡ true → a ≡ b
params_same a b e = params_exact a b (equal_of (params_cmp a b) e)
