-- Sources in a list, and what is told of each.
use Rattle.std.specs.Prelude.{◌≡◌, ℕ, zero, suc, List, [], ◌∷◌, ◌++◌, map, length, slice_get, slice_set, Option, Some, IfSome, Result, IfOk, refl}
use Rattle.std.specs.List.{AllByRecursion, remove}
use Rattle.std.proofs.Common.{ap, ap₂, sym, subst, ◌∙◌}
use Rattle.std.proofs.lemmas.Option.{same_Some, none-some}
use Rattle.value_model.specs.Val.{Val}
use Rattle.ejson_value.specs.declared.change.Publish.{Publish}
use Rattle.ejson_value.specs.Changes.{news_of}
use Rattle.publication.specs.Cursors.{ACursors}
use Rattle.publication.specs.Published.{published}
use Rattle.live_observer.specs.Observing.{AnObserver, cursors_of, HaveNoLimit}
use Rattle.session_state.specs.declared.subs.Sub.{Sub}
use Rattle.store_machine.specs.State.{MachineState, programs, held_after}
use Rattle.multiplexer.specs.Leading.{IsLead, AreDifferences}
use Rattle.multiplexer.specs.Telling.{CursorsAt, ASpan, ASource, news_in, documents_of, AreKnownFrom, IsSpan, IsTold, IsSource}
use Rattle.multiplexer.specs.Sources.{IsAlike, IsOf, IsPlaceOf, IsToldBy}

-- ---- lists

pub all_at : {A : Type 0} (P : A → Type 0) (xs : List A) (i : ℕ) (x : A) → AllByRecursion P xs → slice_get xs i ≡ Some x → P x
all_at P [] i x all is = absurd (none-some x is)
all_at P (y ∷ xs) zero x all is = subst P (same_Some y x is) all.0
all_at P (y ∷ xs) (suc i) x all is = all_at P xs i x all.1 is

pub all_with : {A : Type 0} (P : A → Type 0) (xs : List A) (i : ℕ) (x : A) → AllByRecursion P xs → P x → AllByRecursion P (slice_set xs i x)
all_with P [] i x all one = tt
all_with P (y ∷ xs) zero x all one = (one, all.1)
all_with P (y ∷ xs) (suc i) x all one = (all.0, all_with P xs i x all.1 one)

pub all_more : {A : Type 0} (P : A → Type 0) (xs : List A) (x : A) → AllByRecursion P xs → P x → AllByRecursion P (xs ++ x ∷ [])
all_more P [] x all one = (one, tt)
all_more P (y ∷ xs) x all one = (all.0, all_more P xs x all.1 one)

pub all_removed : {A : Type 0} (P : A → Type 0) (xs : List A) (i : ℕ) → AllByRecursion P xs → AllByRecursion P (remove xs i)
all_removed P [] zero all = tt
all_removed P [] (suc i) all = tt
all_removed P (y ∷ xs) zero all = all.1
all_removed P (y ∷ xs) (suc i) all = (all.0, all_removed P xs i all.1)

pub last_there : {A : Type 0} (xs : List A) (x : A) → slice_get (xs ++ x ∷ []) (length xs) ≡ Some x
last_there [] x = refl
last_there (y ∷ xs) x = last_there xs x

pub set_there : {A : Type 0} (xs : List A) (i : ℕ) (x y : A) → slice_get xs i ≡ Some x → slice_get (slice_set xs i y) i ≡ Some y
set_there [] i x y at = absurd (none-some x at)
set_there (z ∷ xs) zero x y at = refl
set_there (z ∷ xs) (suc i) x y at = set_there xs i x y at

pub set_length : {A : Type 0} (xs : List A) (i : ℕ) (x : A) → length (slice_set xs i x) ≡ length xs
set_length [] i x = refl
set_length (z ∷ xs) zero x = refl
set_length (z ∷ xs) (suc i) x = ap suc (set_length xs i x)

-- the last of some and one more is the subscription's, where that one is
pub last_of : (sources : List ASource) (name : List ℕ) (params : List Val) (source : ASource) (place : ℕ) → place ≡ length sources → IsOf name params source → IsPlaceOf (sources ++ source ∷ []) name params place
last_of sources name params source place at of =
    subst (λ (o : Option ASource). IfSome o (IsOf name params)) (sym (ap (slice_get (sources ++ source ∷ [])) at ∙ last_there sources source)) of

pub place_there : (sources : List ASource) (name : List ℕ) (params : List Val) (source : ASource) (place : ℕ) → slice_get sources place ≡ Some source → IsOf name params source → IsPlaceOf sources name params place
place_there sources name params source place at of = subst (λ (o : Option ASource). IfSome o (IsOf name params)) (sym at) of

pub of_place : (sources : List ASource) (name : List ℕ) (params : List Val) (source : ASource) (place : ℕ) → slice_get sources place ≡ Some source → IsPlaceOf sources name params place → IsOf name params source
of_place sources name params source place at of = subst (λ (o : Option ASource). IfSome o (IsOf name params)) at of

-- ---- cursors

abbrev AreDifferencesOf : ACursors → MachineState → ASource → Type 0
AreDifferencesOf cursors m s = AreDifferences cursors (documents_of (programs m.app) m.history) s.first (map news_in s.ones)

abbrev AreKnownOf : ACursors → MachineState → ASource → Type 0
AreKnownOf cursors m s = AreKnownFrom cursors (documents_of (programs m.app) m.history) s.first s.ones

observes : (sub : Sub) (o : AnObserver) → sub.observer ≡ Some o → IfSome sub.observer (λ (x : AnObserver). cursors_of x ≡ sub.cursors) → cursors_of o ≡ sub.cursors
observes sub o is of = subst (λ (x : Option AnObserver). IfSome x (λ (w : AnObserver). cursors_of w ≡ sub.cursors)) is of

module _ (cursors_at : CursorsAt) (sub : Sub) (o : AnObserver) (source : IsSource cursors_at sub) (is : sub.observer ≡ Some o) where
  pub cursors_same : cursors_of o ≡ sub.cursors
  cursors_same = observes sub o is source.observer

  pub unlimited : HaveNoLimit (cursors_of o)
  unlimited = subst HaveNoLimit (sym cursors_same) source.no_limit

  cursors_of_source : (s : ASource) → IsOf sub.name sub.params s → cursors_at s.name s.params ≡ cursors_of o
  cursors_of_source s of = ap₂ cursors_at of.name_is of.params_are ∙ (sym source.cursors ∙ sym cursors_same)

  module _ (m : MachineState) where
    pub told_by : (s : ASource) → IsOf sub.name sub.params s → IsTold cursors_at (programs m.app) m.history s → IsToldBy (cursors_of o) m s
    told_by s of told = record {
      within = told.within;
      each = subst (λ (cs : ACursors). AreDifferencesOf cs m s) (cursors_of_source s of) told.each;
      known = subst (λ (cs : ACursors). AreKnownOf cs m s) (cursors_of_source s of) told.known;
      last = subst (λ (cs : ACursors). IfSome s.last (IsSpan cs (programs m.app) m.history)) (cursors_of_source s of) told.last;
    }

    pub told_at : (s : ASource) → IsOf sub.name sub.params s → IsToldBy (cursors_of o) m s → IsTold cursors_at (programs m.app) m.history s
    told_at s of told = record {
      within = told.within;
      each = subst (λ (cs : ACursors). AreDifferencesOf cs m s) (sym (cursors_of_source s of)) told.each;
      known = subst (λ (cs : ACursors). AreKnownOf cs m s) (sym (cursors_of_source s of)) told.known;
      last = subst (λ (cs : ACursors). IfSome s.last (IsSpan cs (programs m.app) m.history)) (sym (cursors_of_source s of)) told.last;
    }

  -- the subscription's one, whose entries are told as before or further
  pub alike_of : (old new : ASource) → IsOf sub.name sub.params old → IsAlike old new → IsOf sub.name sub.params new
  alike_of old new of alike = record { name_is = alike.name ∙ of.name_is; params_are = alike.params ∙ of.params_are }

  -- what is told of the others stays
  pub all_told : (m : MachineState) (sources : List ASource) (place : ℕ) (s new : ASource) → slice_get sources place ≡ Some s → IsPlaceOf sources sub.name sub.params place → IsAlike s new →
      (HaveNoLimit (cursors_of o) → IsToldBy (cursors_of o) m s → IsToldBy (cursors_of o) m new) → AllByRecursion (IsTold cursors_at (programs m.app) m.history) sources →
      AllByRecursion (IsTold cursors_at (programs m.app) m.history) (slice_set sources place new)
  all_told m sources place s new at placed alike keeps all =
      let P : ASource → Type 0 = IsTold cursors_at (programs m.app) m.history in
      let of = of_place sources sub.name sub.params s place at placed in
      all_with P sources place new all (told_at m new (alike_of s new of alike) (keeps unlimited (told_by m s of (all_at P sources place s all at))))

  -- what is told by the observer's cursors is told by the subscription's
  pub leads_by : {T E : Type 0} (m : MachineState) (value : T → List Publish) (from until : ℕ) (result : Result (Option T) E) →
      IfOk result (λ answer. IfSome answer (λ told. IsLead (published (cursors_of o) (held_after m from).rows) (published (cursors_of o) (held_after m until).rows) (news_of (value told)))) →
      IfOk result (λ answer. IfSome answer (λ told. IsLead (published sub.cursors (held_after m from).rows) (published sub.cursors (held_after m until).rows) (news_of (value told))))
  leads_by m value from until result leads =
      subst (λ (cs : ACursors). IfOk result (λ answer. IfSome answer (λ told. IsLead (published cs (held_after m from).rows) (published cs (held_after m until).rows) (news_of (value told))))) cursors_same leads

module _ (cursors_at : CursorsAt) (cursors : ACursors) (m : MachineState) (s : ASource) (same : cursors_at s.name s.params ≡ cursors) where
  by_cursors : IsTold cursors_at (programs m.app) m.history s → IsToldBy cursors m s
  by_cursors told = record {
    within = told.within;
    each = subst (λ (cs : ACursors). AreDifferencesOf cs m s) same told.each;
    known = subst (λ (cs : ACursors). AreKnownOf cs m s) same told.known;
    last = subst (λ (cs : ACursors). IfSome s.last (IsSpan cs (programs m.app) m.history)) same told.last;
  }

  at_cursors : IsToldBy cursors m s → IsTold cursors_at (programs m.app) m.history s
  at_cursors told = record {
    within = told.within;
    each = subst (λ (cs : ACursors). AreDifferencesOf cs m s) (sym same) told.each;
    known = subst (λ (cs : ACursors). AreKnownOf cs m s) (sym same) told.known;
    last = subst (λ (cs : ACursors). IfSome s.last (IsSpan cs (programs m.app) m.history)) (sym same) told.last;
  }

-- a span of the subscription's publication is learnt by its source
pub all_learnt : (cursors_at : CursorsAt) (m : MachineState) (sub : Sub) (sources : List ASource) (place : ℕ) (s new : ASource) (span : ASpan) → slice_get sources place ≡ Some s → IsPlaceOf sources sub.name sub.params place → IsSource cursors_at sub →
    IsSpan sub.cursors (programs m.app) m.history span → IsAlike s new → (IsToldBy sub.cursors m s → IsSpan sub.cursors (programs m.app) m.history span → IsToldBy sub.cursors m new) →
    AllByRecursion (IsTold cursors_at (programs m.app) m.history) sources → AllByRecursion (IsTold cursors_at (programs m.app) m.history) (slice_set sources place new)
all_learnt cursors_at m sub sources place s new span at placed source is alike learns all =
    let P : ASource → Type 0 = IsTold cursors_at (programs m.app) m.history in
    let of = of_place sources sub.name sub.params s place at placed in
    let was : cursors_at s.name s.params ≡ sub.cursors = ap₂ cursors_at of.name_is of.params_are ∙ sym source.cursors in
    let now : cursors_at new.name new.params ≡ sub.cursors = ap₂ cursors_at alike.name alike.params ∙ was in
    all_with P sources place new all (at_cursors cursors_at sub.cursors m new now (learns (by_cursors cursors_at sub.cursors m s was (all_at P sources place s all at)) is))

-- what is told by the subscription's one is told by its cursors
pub told_of : (cursors_at : CursorsAt) (m : MachineState) (sub : Sub) (sources : List ASource) (place : ℕ) (s : ASource) → slice_get sources place ≡ Some s → IsPlaceOf sources sub.name sub.params place → IsSource cursors_at sub →
    AllByRecursion (IsTold cursors_at (programs m.app) m.history) sources → IsToldBy sub.cursors m s
told_of cursors_at m sub sources place s at placed source all =
    let of = of_place sources sub.name sub.params s place at placed in
    by_cursors cursors_at sub.cursors m s (ap₂ cursors_at of.name_is of.params_are ∙ sym source.cursors) (all_at (IsTold cursors_at (programs m.app) m.history) sources place s all at)

-- and goes on being so, where it is told by them as before
pub all_known : (cursors_at : CursorsAt) (m : MachineState) (sub : Sub) (sources : List ASource) (place : ℕ) (s new : ASource) → slice_get sources place ≡ Some s → IsPlaceOf sources sub.name sub.params place → IsSource cursors_at sub →
    IsAlike s new → (IsToldBy sub.cursors m s → IsToldBy sub.cursors m new) → AllByRecursion (IsTold cursors_at (programs m.app) m.history) sources →
    AllByRecursion (IsTold cursors_at (programs m.app) m.history) (slice_set sources place new)
all_known cursors_at m sub sources place s new at placed source alike keeps all =
    let P : ASource → Type 0 = IsTold cursors_at (programs m.app) m.history in
    let of = of_place sources sub.name sub.params s place at placed in
    let was : cursors_at s.name s.params ≡ sub.cursors = ap₂ cursors_at of.name_is of.params_are ∙ sym source.cursors in
    let now : cursors_at new.name new.params ≡ sub.cursors = ap₂ cursors_at alike.name alike.params ∙ was in
    all_with P sources place new all (at_cursors cursors_at sub.cursors m new now (keeps (by_cursors cursors_at sub.cursors m s was (all_at P sources place s all at))))
