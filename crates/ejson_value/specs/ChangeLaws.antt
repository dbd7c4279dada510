-- Changes of distinct keys, so that a list of them that contents took leads from those they were to those they are.
use Rattle.std.specs.Prelude.{◌≡◌, List, [], ◌∷◌, map, false, cond, All, Option}
use Rattle.std.specs.List.{IsDistinct, AllByRecursion}
use Rattle.std.specs.Ordering.{eq_by_cmp}
use Rattle.std.proofs.Common.{ap, ◌∙◌}
use Rattle.std.proofs.lemmas.Cmp.{eq_by_cmp_equiv}
use Rattle.std.proofs.lemmas.List.Elements.{All-nil, All-cons, All-head, All-tail}
use Rattle.map_model.specs.Maps.{at, set, IsSorted}
use Rattle.map_model.specs.MapLaws.{at-set, sorted-set}
use Rattle.map_model.specs.Changes.{Fit}
use Rattle.value_model.specs.Val.{Entries}
use Rattle.ejson_value.specs.declared.key.Key.{Key}
use Rattle.ejson_value.specs.declared.change.Change.{Change}
use Rattle.ejson_value.specs.Key.{key_cmp, key_total, key_order}
use Rattle.ejson_value.specs.Rows.{Rows}
use Rattle.ejson_value.specs.Changes.{changes_of}

-- each change's `before` is what the rows have at its key
abbrev pub AllFit : Rows → List Change → Type 0
AllFit rows cs = All (λ (c : Change). at key_cmp rows c.key ≡ c.before) cs

abbrev pub HaveDistinctKeys : List Change → Type 0
HaveDistinctKeys cs = IsDistinct (eq_by_cmp key_cmp) (map (λ (c : Change). c.key) cs)

-- another key has what it had
elsewhere : (rows : Rows) (key other : Key) (w : Option Entries) → IsSorted key_cmp rows → eq_by_cmp key_cmp key other ≡ false →
    at key_cmp (set key_cmp rows key w) other ≡ at key_cmp rows other
elsewhere rows key other w s apart =
    at-set key_order rows key w other s ∙ ap (λ b. cond b w (at key_cmp rows other)) ((eq_by_cmp_equiv key_total).symm other key ∙ apart)

still_fit : (rows : Rows) (key : Key) (w : Option Entries) (cs : List Change) → IsSorted key_cmp rows →
    AllByRecursion (λ q. eq_by_cmp key_cmp key q ≡ false) (map (λ (c : Change). c.key) cs)
    → AllFit rows cs → AllFit (set key_cmp rows key w) cs
still_fit rows key w [] s apart fit = All-nil (λ (c : Change). at key_cmp (set key_cmp rows key w) c.key ≡ c.before)
still_fit rows key w (c ∷ cs) s apart fit =
    All-cons (λ (c : Change). at key_cmp (set key_cmp rows key w) c.key ≡ c.before) c cs
    (elsewhere rows key c.key w s apart.0 ∙ All-head (λ (c : Change). at key_cmp rows c.key ≡ c.before) c cs fit)
    (still_fit rows key w cs s apart.1 (All-tail (λ (c : Change). at key_cmp rows c.key ≡ c.before) c cs fit))

-- what fits all at once fits one after another
pub Fit-from_all : (rows : Rows) (cs : List Change) → IsSorted key_cmp rows → HaveDistinctKeys cs → AllFit rows cs → Fit key_cmp rows (changes_of cs)
unfolding IsDistinct
Fit-from_all rows [] s apart fit = tt
Fit-from_all rows (c ∷ cs) s apart fit = (
  All-head (λ (c : Change). at key_cmp rows c.key ≡ c.before) c cs fit,
  Fit-from_all (set key_cmp rows c.key c.after) cs (sorted-set key_order rows c.key c.after s) apart.1
      (still_fit rows c.key c.after cs s apart.0 (All-tail (λ (c : Change). at key_cmp rows c.key ≡ c.before) c cs fit)),
)
