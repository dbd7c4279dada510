-- Laws: calls that stand, and calls that a history begins, by number.
use Rattle.std.specs.Prelude.{◌≡◌, ℕ, List, [], ◌∷◌, ◌++◌, length, map, filter, cond, not, ◌==◌, true, false, Some, refl}
use Rattle.std.proofs.Common.{ap, ap₂, sym, subst, ◌∙◌, append-nil}
use Rattle.std.proofs.lemmas.List.{append_assoc, map-append}
use Rattle.std.proofs.lemmas.List.Elements.{filter-append}
use mathlib.Core.List.{IsPrefix}
use Rattle.ejson_value.specs.View.{view}
use Rattle.app_model.specs.App.{App}
use Rattle.history_model.specs.declared.entry.Entry.{Entry}
use Rattle.history_model.specs.declared.entry.Entry.TheVariants as entry
use Rattle.history_model.specs.History.{Programs, IsLegal, Rise, calls_of, call_in}
use Rattle.history_model.specs.BegunLaws.{calls_rise}
use Rattle.session_model.specs.Items.{Item}
use Rattle.session_model.specs.Items as item
use Rattle.session_model.specs.Methods.{Blocking}
use Rattle.session_model.specs.State.{State, started, calling, after, state_of}
use Rattle.session_model.specs.Moments.{Moment}
use Rattle.session_model.specs.Fits.{CanFollow, FitsFrom, Fits}
use Rattle.session_journal_laws.specs.BlockingLaws.{call_number}
use Rattle.world_model.specs.Headline.{calls_in, standing, begun_by, begun_in}
use Rattle.world_invariant_laws.specs.Standing.{AreBelow, KnowsCalls, stands_in}
use Rattle.world_invariant_laws.specs.StandingLaws.{calls_in-append, below_filtered, knows_calls, known_after}
use Rattle.lane_model.specs.Among.{AllBelow}
use Rattle.lane_model.specs.Account.{number_of, AreInOrder, IsLast}
use Rattle.lane_model.specs.RisingLaws.{rise_snoc, rise_some}

pub as_below : (n : ℕ) (calls : List Blocking) → AreBelow n calls → AllBelow number_of n calls
as_below n [] p = tt
as_below n (b ∷ calls) p = (p.0, as_below n calls p.1)

-- ---- the calls of a journal

-- the call is the last of these
pub record StandsLast (b : Blocking) (calls : List Blocking) : Type 0 where
  pub others : List Blocking
  pub last : IsLast b others calls

module _ (app : App) (number : ℕ) (C : List Moment) where
  one_more : (st : State) (before : List Item) (i : Item) → CanFollow app number C st i → KnowsCalls st before → AreInOrder (calls_in before) →
      AreInOrder (calls_in (before ++ i ∷ []))
  one_more st before (item.call k message seed) f w r =
      let next : k ≡ length st.methods = call_number app number st message k message seed f.made in
      let below : AllBelow number_of k (calls_in before) =
      subst (λ n. AllBelow number_of n (calls_in before)) (sym next) (as_below (length st.methods) (calls_in before) w.below) in
      subst AreInOrder (sym (calls_in-append before (item.call k message seed))) (rise_snoc number_of (calls_in before) (calling k message seed) r below)
  one_more st before i f w r = subst AreInOrder (sym (calls_in-append before i ∙ append-nil (calls_in before))) r

  all_rise : (st : State) (before items : List Item) → KnowsCalls st before → FitsFrom app number C st items → AreInOrder (calls_in before) →
      AreInOrder (calls_in (before ++ items))
  all_rise st before [] w f r = subst (λ (is : List Item). AreInOrder (calls_in is)) (sym (append-nil before)) r
  all_rise st before (i ∷ items) w f r =
      subst (λ (is : List Item). AreInOrder (calls_in is)) (append_assoc before (i ∷ []) items)
      (all_rise (after st i) (before ++ i ∷ []) items (known_after app number C st before i f.0 w) f.1 (one_more st before i f.0 w r))

  -- those that stand do so by rising number
  pub standing_rise : (items : List Item) → Fits app number C items → AreInOrder (standing items)
  standing_rise items f =
      rise_some number_of (stands_in items) (calls_in items)
      (all_rise started [] items (record { below = tt; fresh = λ k le. refl; last = λ b e. cc e }) f tt)

  -- and the one that blocks is the last of them
  pub blocking_last : (items : List Item) → Fits app number C items → (b : Blocking) → (state_of items).blocking ≡ Some b → StandsLast b (standing items)
  blocking_last items f b e =
      let l = (knows_calls app number C items f).last b e in
      let older = filter (stands_in items) l.older in
      record {
        others = older;
        last = record {
          is = ap (filter (stands_in items)) l.is
              ∙ (filter-append (stands_in items) l.older (b ∷ []) ∙ ap (λ c. older ++ cond (not c) (b ∷ []) []) l.stands);
          below = as_below b.k older (below_filtered b.k (stands_in items) l.older l.below);
        };
      }

-- ---- the calls that a history begins

number_in : (n : ℕ) (e : Entry) → map number_of (begun_by n e) ≡ call_in n e
number_in n (entry.Begin m k method params seed) =
    let call : Blocking = record { k = k; method = method; params = params; seed = view seed } in
    elim (n == m) as (λ b. map number_of (cond b (call ∷ []) []) ≡ cond b (k ∷ []) []) [ true ↦ refl | false ↦ refl ]
number_in n (entry.Step m k) = refl
number_in n (entry.Admin op) = refl

numbers_in : (n : ℕ) (h : List Entry) → map number_of (begun_in n h) ≡ calls_of n h
numbers_in n [] = refl
numbers_in n (e ∷ h) = map-append number_of (begun_by n e) (begun_in n h) ∙ ap₂ (λ (a b : List ℕ). a ++ b) (number_in n e) (numbers_in n h)

pub begun_rise : (app : Programs) (n : ℕ) (h : List Entry) → IsLegal app h → AreInOrder (begun_in n h)
begun_rise app n h l = subst Rise (sym (numbers_in n h)) (calls_rise app h n l)

begun_all : (n : ℕ) (h more : List Entry) → begun_in n (h ++ more) ≡ begun_in n h ++ begun_in n more
begun_all n [] more = refl
begun_all n (x ∷ h) more = ap (λ bs. begun_by n x ++ bs) (begun_all n h more) ∙ sym (append_assoc (begun_by n x) (begun_in n h) (begun_in n more))

pub begun_prefix : (n : ℕ) (h h' : List Entry) → IsPrefix h h' → IsPrefix (begun_in n h) (begun_in n h')
begun_prefix n h h' p = (begun_in n p.0, sym (begun_all n h p.0) ∙ ap (begun_in n) p.1)
