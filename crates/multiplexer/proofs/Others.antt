-- What a change of one source leaves of those of other publications.
use Rattle.std.specs.Prelude.{◌≡◌, ℕ, zero, suc, ◌<◌, ◌&&◌, List, [], ◌∷◌, ◌++◌, length, slice_get, slice_set, Bool, true, false, cond, Option, None, Some, is_some, refl}
use Rattle.std.specs.Ordering.{is_eq}
use Rattle.std.proofs.Common.{ap, sym, subst, ◌∙◌, ⊎_elim}
use Rattle.std.proofs.lemmas.Option.{same_Some, none-some}
use Rattle.std.proofs.lemmas.Slice.Eq.{bytes_eq-Decides}
use Rattle.value_model.specs.Val.{Val}
use Rattle.value_model.specs.Size.{is_name}
use Rattle.multiplexer.specs.Bounds.{max_sources}
use Rattle.multiplexer.specs.Looks.{is_for, source_for, HasSource}
use Rattle.multiplexer.specs.Others.{HasRoom, IsOther, OthersStay}
use Rattle.multiplexer.specs.Params.{params_cmp}
use Rattle.multiplexer.specs.Sources.{IsOf}
use Rattle.multiplexer.specs.Telling.{ASource}
use Rattle.multiplexer.proofs.Alike.{params_same}

-- a source of the one publication is none of the other
not_for : (name : List ℕ) (params : List Val) (name' : List ℕ) (params' : List Val) (s : ASource) → IsOf name params s → IsOther name params name' params' →
    is_for name' params' s ≡ false
not_for name params name' params' s of other = by (is_name s.name name') (is_eq (params_cmp s.params params')) refl refl
  where
    by : (a b : Bool) → is_name s.name name' ≡ a → is_eq (params_cmp s.params params') ≡ b → (a && b) ≡ false
    by false b named called = refl
    by true false named called = refl
    by true true named called =
        absurd (other (sym ((bytes_eq-Decides s.name name').0 named) ∙ of.name_is, sym (params_same s.params params' called) ∙ of.params_are))

-- all stay
pub others_same : (name : List ℕ) (params : List Val) (sources : List ASource) → OthersStay name params sources sources
others_same name params sources = λ name' params' other. refl

-- they stay, and stay again
pub others_then : (name : List ℕ) (params : List Val) (old mid new : List ASource) → OthersStay name params old mid → OthersStay name params mid new →
    OthersStay name params old new
others_then name params old mid new first second = λ name' params' other. second name' params' other ∙ first name' params' other

-- another source of the publication in the place of its own
pub others_set : (name : List ℕ) (params : List Val) (sources : List ASource) (place : ℕ) (s new : ASource) → slice_get sources place ≡ Some s → IsOf name params s →
    IsOf name params new → OthersStay name params sources (slice_set sources place new)
others_set name params [] place s new at was now = absurd (none-some s at)
others_set name params (x ∷ sources) zero s new at was now = λ name' params' other.
    let own : IsOf name params x = subst (IsOf name params) (sym (same_Some x s at)) was in
    ap (λ (b : Bool). cond b (Some new) (source_for name' params' sources)) (not_for name params name' params' new now other)
    ∙ sym (ap (λ (b : Bool). cond b (Some x) (source_for name' params' sources)) (not_for name params name' params' x own other))
others_set name params (x ∷ sources) (suc place) s new at was now = λ name' params' other.
    ap (λ (o : Option ASource). cond (is_for name' params' x) (Some x) o) (others_set name params sources place s new at was now name' params' other)

-- one more of the publication
pub others_more : (name : List ℕ) (params : List Val) (sources : List ASource) (new : ASource) → IsOf name params new →
    OthersStay name params sources (sources ++ new ∷ [])
others_more name params [] new now = λ name' params' other.
    ap (λ (b : Bool). cond b (Some new) None) (not_for name params name' params' new now other)
others_more name params (x ∷ sources) new now = λ name' params' other.
    ap (λ (o : Option ASource). cond (is_for name' params' x) (Some x) o) (others_more name params sources new now name' params' other)

-- where the publication has no source, it has room where fewer are kept than may be
pub room_left : (name : List ℕ) (params : List Val) (sources : List ASource) → source_for name params sources ≡ None → HasRoom sources name params →
    length sources < max_sources
room_left name params sources none room =
    ⊎_elim
    (λ (has : HasSource sources name params). absurd (let no : is_some (source_for name params sources) ≡ false = ap is_some none in cc (has, no)))
    (λ (few : length sources < max_sources). few)
    room
