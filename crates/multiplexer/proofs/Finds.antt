-- The source of a publication, and up to which place it knows a span.
use Rattle.std.specs.Prelude.{◌≡◌, ℕ, zero, suc, ◌+◌, ◌-◌, ◌<◌, ◌≤◌, ◌&&◌, nat_le, List, [], ◌∷◌, length, take, slice_get, slice_set, Bool, true, false, cond, Option, None, Some, is_some, refl}
use Rattle.std.specs.Ordering.{is_eq}
use Rattle.std.proofs.Common.{ap, ap₂, sym, subst, ◌∙◌, arith, ⊎_elim}
use Rattle.std.proofs.lemmas.Bool.{le-leb, eq-eqb}
use Rattle.std.proofs.lemmas.Bool.Decides.{leb_tells}
use Rattle.std.proofs.lemmas.List.{length-map}
use Rattle.std.proofs.lemmas.Option.{same_Some, none-some}
use Rattle.std.proofs.lemmas.Slice.Eq.{bytes_eq-Decides}
use Rattle.value_model.specs.Val.{Val, list, vals_of}
use Rattle.value_model.specs.OrderLaws.{compare_itself}
use Rattle.value_model.specs.Size.{is_name}
use Rattle.live_observer.specs.declared.watched.Watched.{Watched}
use Rattle.live_observer.specs.Observing.{AnObserver}
use Rattle.session_state.specs.declared.subs.Sub.{Sub}
use Rattle.store_machine.specs.State.{MachineState}
use Rattle.multiplexer.specs.Looks.{looks, is_last, is_near, told_until, known_until, is_for, source_for, known_by, known_in, HasSource}
use Rattle.multiplexer.specs.Params.{params_cmp}
use Rattle.multiplexer.specs.Sources.{max_span, next_of, source_of, IsAlike, IsOf, IsPlaceOf}
use Rattle.multiplexer.specs.Telling.{CursorsAt, ASpan, ASource, IsSource}
use Rattle.multiplexer.proofs.Counts.{looks_none}
use Rattle.multiplexer.proofs.Sources.{cursors_same}

-- a new one knows nothing of it
pub new_knows : (name : List ℕ) (params : List Val) (from until : ℕ) → known_until (source_of name params from) from until ≡ from
new_knows name params from until = by (is_near (source_of name params from) from until)
  where
    by : (b : Bool) → cond b (from + 0) from ≡ from
    by true = omega arith
    by false = refl

-- an observer has as many cursors as its subscription
pub as_many : (cursors_at : CursorsAt) (sub : Sub) (o : AnObserver) → IsSource cursors_at sub → sub.observer ≡ Some o → length o ≡ length sub.cursors
as_many cursors_at sub o source is = sym (length-map o (λ (w : Watched). w.cursor)) ∙ ap length (cursors_same cursors_at sub o source is)

-- so often is looked at them
pub looks_by : (cursors_at : CursorsAt) (sub : Sub) (o : AnObserver) (m : MachineState) (from until before after : ℕ) → IsSource cursors_at sub → sub.observer ≡ Some o → after ≤ before + looks (length o) m from until → after ≤ before + looks (length sub.cursors) m from until
looks_by cursors_at sub o m from until before after source is le = subst (λ n. after ≤ before + looks n m from until) (as_many cursors_at sub o source is) le

-- and never where all is known
pub looks_never : (n : ℕ) (m : MachineState) (known until before after : ℕ) → before ≤ after → after ≤ before + looks n m known until → until ≤ known → after ≡ before
looks_never n m known until before after grows le all = omega (arith, grows, le, looks_none n m known until all)

-- ---- what is made of a span

module _ (s : ASource) (from until n : ℕ) (m : MachineState) (before after : ℕ) where
  near : s.first ≤ from → until - from ≤ max_span → is_near s from until ≡ true
  near low short = ap₂ (λ (a b : Bool). a && b) (le-leb s.first from low) (le-leb (until - from) max_span short)

  far : ((s.first ≤ from) × (until - from ≤ max_span) → ⊥) → is_near s from until ≡ false
  far none =
      ⊎_elim (λ low. ⊎_elim (λ short. absurd (none (low.1, short.1))) (λ long. ap₂ (λ (a b : Bool). a && b) low.0 long.0) (leb_tells (until - from) max_span)) (λ high. ap (λ (a : Bool). a && nat_le (until - from) max_span) high.0) (leb_tells s.first from)

  -- put together of its entries
  pub looks_near : s.first ≤ from → until - from ≤ max_span → after ≤ before + looks n m (next_of s) until → after ≤ before + looks n m (told_until s from until) until
  looks_near low short le = subst (λ (b : Bool). after ≤ before + looks n m (cond b (next_of s) from) until) (sym (near low short)) le

  -- at once
  pub looks_far : ((s.first ≤ from) × (until - from ≤ max_span) → ⊥) → after ≤ before + looks n m from until → after ≤ before + looks n m (told_until s from until) until
  looks_far none le = subst (λ (b : Bool). after ≤ before + looks n m (cond b (next_of s) from) until) (sym (far none)) le

  -- where it was not kept
  pub looks_fresh : is_last s.last from until ≡ false → after ≤ before + looks n m (told_until s from until) until → after ≤ before + looks n m (known_until s from until) until
  looks_fresh none le = subst (λ (b : Bool). after ≤ before + looks n m (cond b until (told_until s from until)) until) (sym none) le

-- ---- the first source of a publication

-- what is found is of the publication
pub found_is : (name : List ℕ) (params : List Val) (sources : List ASource) (s : ASource) → source_for name params sources ≡ Some s → is_for name params s ≡ true
found_is name params [] s e = absurd (none-some s e)
found_is name params (x ∷ sources) s e = by (is_for name params x) refl e (found_is name params sources s)
  where
    by : (b : Bool) → is_for name params x ≡ b → cond b (Some x) (source_for name params sources) ≡ Some s → (source_for name params sources ≡ Some s → is_for name params s ≡ true) → is_for name params s ≡ true
    by true is e next = subst (λ (y : ASource). is_for name params y ≡ true) (same_Some x s e) is
    by false is e next = next e

-- none of those before it is, so it is found where another one of the publication stands in its place
pub found_set : (name : List ℕ) (params : List Val) (sources : List ASource) (place : ℕ) (s new : ASource) → source_for name params (take place sources) ≡ None → slice_get sources place ≡ Some s → is_for name params new ≡ true →
    source_for name params (slice_set sources place new) ≡ Some new
found_set name params [] place s new none at is = absurd (none-some s at)
found_set name params (x ∷ sources) zero s new none at is = ap (λ (b : Bool). cond b (Some new) (source_for name params sources)) is
found_set name params (x ∷ sources) (suc place) s new none at is = by (is_for name params x) none (λ e. found_set name params sources place s new e at is)
  where
    by : (b : Bool) → cond b (Some x) (source_for name params (take place sources)) ≡ None →
        (source_for name params (take place sources) ≡ None → source_for name params (slice_set sources place new) ≡ Some new) → cond b (Some x) (source_for name params (slice_set sources place new)) ≡ Some new
    by true e next = absurd (none-some x (sym e))
    by false e next = next e

-- one more is none of the publication
pub found_none : (name : List ℕ) (params : List Val) (sources : List ASource) (place : ℕ) (x : ASource) → source_for name params (take place sources) ≡ None → slice_get sources place ≡ Some x → is_for name params x ≡ false →
    source_for name params (take (suc place) sources) ≡ None
found_none name params [] place x none at is = absurd (none-some x at)
found_none name params (y ∷ sources) zero x none at is = ap (λ (b : Bool). cond b (Some y) None) (subst (λ (z : ASource). is_for name params z ≡ false) (sym (same_Some y x at)) is)
found_none name params (y ∷ sources) (suc place) x none at is = by (is_for name params y) none (λ e. found_none name params sources place x e at is)
  where
    by : (b : Bool) → cond b (Some y) (source_for name params (take place sources)) ≡ None →
        (source_for name params (take place sources) ≡ None → source_for name params (take (suc place) sources) ≡ None) → cond b (Some y) (source_for name params (take (suc place) sources)) ≡ None
    by true e next = absurd (none-some y (sym e))
    by false e next = next e

-- a span that was kept is known
known_last : (s : ASource) (span : ASpan) → s.last ≡ Some span → known_until s span.from span.until ≡ span.until
known_last s span is =
    let last : is_last s.last span.from span.until ≡ true = subst (λ (o : Option ASpan). is_last o span.from span.until ≡ true) (sym is) (ap₂ (λ (a b : Bool). a && b) (eq-eqb span.from span.from refl) (eq-eqb span.until span.until refl)) in
    ap (λ (b : Bool). cond b span.until (told_until s span.from span.until)) last

pub learnt_known : (name : List ℕ) (params : List Val) (sources : List ASource) (place : ℕ) (s new : ASource) (span : ASpan) → source_for name params (take place sources) ≡ None → slice_get sources place ≡ Some s →
    slice_get sources place ≡ source_for name params sources → IsAlike s new → new.last ≡ Some span → known_in (slice_set sources place new) name params span.from span.until ≡ span.until
learnt_known name params sources place s new span none at first alike last =
    let was : is_for name params s ≡ true = found_is name params sources s (sym first ∙ at) in
    let now : is_for name params new ≡ true = ap₂ (λ (n : List ℕ) (ps : List Val). is_name n name && is_eq (params_cmp ps params)) alike.name alike.params ∙ was in
    ap (λ (o : Option ASource). known_by o span.from span.until) (found_set name params sources place s new none at now) ∙ known_last new span last

-- ---- a publication has a source

pub own_for : (name : List ℕ) (params : List Val) (s : ASource) → IsOf name params s → is_for name params s ≡ true
own_for name params s of = ap₂ (λ (a b : Bool). a && b) ((bytes_eq-Decides s.name name).1 of.name_is) (subst (λ (ps : List Val). is_eq (params_cmp ps params) ≡ true) (sym of.params_are) (ap is_eq (compare_itself (list (vals_of params)))))

pub found_some : (name : List ℕ) (params : List Val) (sources : List ASource) (place : ℕ) → place < length sources → IsPlaceOf sources name params place → HasSource sources name params
found_some name params [] place within of = absurd (omega (arith, within))
found_some name params (x ∷ sources) zero within of = ap (λ (b : Bool). is_some (cond b (Some x) (source_for name params sources))) (own_for name params x of)
found_some name params (x ∷ sources) (suc place) within of = by (is_for name params x) (found_some name params sources place (omega (arith, within)) of)
  where
    by : (b : Bool) → HasSource sources name params → is_some (cond b (Some x) (source_for name params sources)) ≡ true
    by true next = refl
    by false next = next
