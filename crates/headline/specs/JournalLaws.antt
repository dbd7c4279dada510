-- Laws: What a journal that fits says of its session's subscriptions and calls: each place is one of the history, and a call that runs blocks or has
-- let the next message be handled.
use Rattle.std.specs.Prelude.{◌≡◌, ◌⊎◌, ℕ, zero, suc, ◌+◌, ◌≤◌, ◌<◌, ◌==◌, max, List, [], ◌∷◌, ◌++◌, length, Bool, true, false, cond, not, Option}
use Rattle.std.specs.Prelude.{Some, None, IfSome, option_map, option_and_then, refl}
use Rattle.std.proofs.Common.{ap, sym, subst, ◌∙◌, arith, inl, inr}
use Rattle.std.proofs.lemmas.Bool.{eqb-true, eq-eqb, cases_order}
use Rattle.program_steps.specs.declared.outcome.Status.{Status}
use Rattle.program_steps.specs.Runs.{End}
use Rattle.app_model.specs.App.{App}
use Rattle.world_model.specs.session_model.Items.{Item, id_of}
use Rattle.world_model.specs.session_model.Items as item
use Rattle.world_model.specs.session_model.Subscriptions.{Live, cursor_of, loaded, moved, advanced, closed, is_open}
use Rattle.world_model.specs.session_model.Methods.{Phase, running, refused, finished, told, Method, Blocking, is_blocked_by, freed, phase_at, turned, fired}
use Rattle.world_model.specs.session_model.State.{State, started, or_zero, opening, calling, own_after, after, state_from, state_of}
use Rattle.world_model.specs.session_model.Moments.{Moment, moment_at, run_of, end_at}
use Rattle.world_model.specs.session_model.Fits.{HasUnblocked, MayAdvance, CanFollow, FitsFrom, Fits}
use Rattle.session_journal_laws.specs.BlockingLaws.{turned_other, phase_fired, call_number}
use Rattle.headline.specs.Journal.{AreWithin, HasPlaces, IsWithin, Ran}

-- ---- calls that run

fired_running : (ls : List Live) (o : Option Phase) → option_map (fired ls) o ≡ Some running → o ≡ Some running
fired_running ls None e = cc e
fired_running ls (Some running) e = refl
fired_running ls (Some refused) e = cc e
fired_running ls (Some (told place)) e = cc e
fired_running ls (Some (finished place)) e = by (is_open place ls) e
  where
    by : (b : Bool) → Some (cond b (told place) (finished place)) ≡ Some running → Some (finished place) ≡ Some running
    by true f = cc f
    by false f = f

phase_split : (k : ℕ) (ms : List Method) (m : Method) (p : Phase) → phase_at k (ms ++ m ∷ []) ≡ Some p → (phase_at k ms ≡ Some p) ⊎ (k ≡ length ms)
phase_split zero [] m p e = inr refl
phase_split (suc k) [] m p e = cc e
phase_split zero (x ∷ ms) m p e = inl e
phase_split (suc k) (x ∷ ms) m p e = by (phase_split k ms m p e)
  where
    by : (phase_at k ms ≡ Some p) ⊎ (k ≡ length ms) → (phase_at k ms ≡ Some p) ⊎ (suc k ≡ suc (length ms))
    by (inl f) = inl f
    by (inr f) = inr (ap suc f)

turned_phase : (k : ℕ) (p : Phase) (ms : List Method) → phase_at k (turned k p ms) ≡ Some running → p ≡ running
turned_phase k p [] e = cc e
turned_phase zero p (m ∷ ms) e = cc e
turned_phase (suc k) p (m ∷ ms) e = turned_phase k p ms e

-- another call goes on blocking
blocks_on : (j k : ℕ) (b : Option Blocking) → (j ≡ k → ⊥) → is_blocked_by j b ≡ true → is_blocked_by j (freed k b) ≡ true
blocks_on j k None ne e = cc e
blocks_on j k (Some b) ne e =
    elim (k == b.k) as (λ x. k == b.k ≡ x → is_blocked_by j (cond x None (Some b)) ≡ true) [
      | true ↦ λ is. absurd (ne (eqb-true j b.k e ∙ sym (eqb-true k b.k is)))
      | false ↦ λ is. e
    ] refl

same_call : {A : Type 0} (j k : ℕ) → (j ≡ k → A) → ((j ≡ k → ⊥) → A) → A
same_call {A} j k here else_ = by (cases_order j k)
  where
    by : (j ≡ k) ⊎ ((j < k) ⊎ (k < j)) → A
    by (inl e) = here e
    by (inr (inl l)) = else_ (λ e. omega (arith, e, l))
    by (inr (inr l)) = else_ (λ e. omega (arith, e, l))

still_ran : (C : List Moment) (st : State) (k : ℕ) (ms : List Method) → Ran C st → (j : ℕ) → (j ≡ k → ⊥) → phase_at j st.methods ≡ Some running →
    (is_blocked_by j (freed k st.blocking) ≡ true) ⊎ HasUnblocked C j
still_ran C st k ms h j ne is = by (h j is)
  where
    by : (is_blocked_by j st.blocking ≡ true) ⊎ HasUnblocked C j → (is_blocked_by j (freed k st.blocking) ≡ true) ⊎ HasUnblocked C j
    by (inl b) = inl (blocks_on j k st.blocking ne b)
    by (inr u) = inr u

no_refusal : {A : Type 0} → refused ≡ running → A
no_refusal e = absurd (cc e)

no_finish : {A : Type 0} (place : ℕ) → finished place ≡ running → A
no_finish place e = absurd (cc e)

own_ran : (app : App) (number : ℕ) (C : List Moment) (st : State) (i : Item) → CanFollow app number C st i → Ran C st → Ran C (own_after st i)
own_ran app number C st (item.call k message seed) f h j is = by (phase_split j st.methods (record { id = id_of message; phase = running }) running is)
  where
    by : (phase_at j st.methods ≡ Some running) ⊎ (j ≡ length st.methods) → (is_blocked_by j (Some (calling k message seed)) ≡ true) ⊎ HasUnblocked C j
    by (inr e) = inl (eq-eqb j k (e ∙ sym (call_number app number st message k message seed f.made)))
    by (inl e) = older (h j e)
      where
        older : (is_blocked_by j st.blocking ≡ true) ⊎ HasUnblocked C j → (is_blocked_by j (Some (calling k message seed)) ≡ true) ⊎ HasUnblocked C j
        older (inl b) = let differ : false ≡ true = sym (ap (is_blocked_by j) f.free) ∙ b in absurd (cc differ)
        older (inr u) = inr u
own_ran app number C st (item.refused k place) f h j is =
    same_call j k (λ e. no_refusal (turned_phase k refused st.methods (subst (λ x. phase_at x (turned k refused st.methods) ≡ Some running) e is)))
    (λ ne. still_ran C st k st.methods h j ne (sym (turned_other j k refused st.methods ne) ∙ is))
own_ran app number C st (item.unblocked k) f h j is =
    same_call j k (λ e. inr (subst (HasUnblocked C) (sym e) f.1)) (λ ne. still_ran C st k st.methods h j ne is)
own_ran app number C st (item.finished k place) f h j is =
    same_call j k
    (λ e. no_finish place (turned_phase k (finished place) st.methods (subst (λ x. phase_at x (turned k (finished place) st.methods) ≡ Some running) e is)))
    (λ ne. still_ran C st k st.methods h j ne (sym (turned_other j k (finished place) st.methods ne) ∙ is))
own_ran app number C st i f h j is = h j is

ran_from : (app : App) (number : ℕ) (C : List Moment) (st : State) (items : List Item) → FitsFrom app number C st items → Ran C st → Ran C (state_from st items)
ran_from app number C st [] f h = h
ran_from app number C st (i ∷ items) f h =
    let own = own_after st i in
    ran_from app number C (after st i) items f.1
    (λ k is. own_ran app number C st i f.0 h k (fired_running own.subs (phase_at k own.methods) (sym (phase_fired own.subs k own.methods) ∙ is)))

-- a call that runs blocks, or its run let the next message be handled at some place of the history
pub runs_block_or_unblocked : (app : App) (number : ℕ) (C : List Moment) (items : List Item) → Fits app number C items → (k : ℕ) →
    phase_at k (state_of items).methods ≡ Some running →
    (is_blocked_by k (state_of items).blocking ≡ true) ⊎ HasUnblocked C k
runs_block_or_unblocked app number C items f k is = ran_from app number C started items f (λ j e. absurd (cc e)) k is

-- ---- places of subscriptions

left_of : (a b : ℕ) → a ≤ max a b
left_of a b = omega arith

under : (a b n : ℕ) → a < n → b < n → max a b < n
under a b n la lb = omega (arith, la, lb)

further : (n r s : ℕ) (ls : List Live) → r ≤ s → AreWithin n r ls → AreWithin n s ls
further n r s [] le w = tt
further n r s (l ∷ ls) le w = ((omega (arith, w.0.0, le), w.0.1), further n r s ls le w.1)

within_opened : (n r : ℕ) (ls : List Live) (l : Live) → AreWithin n r ls → IsWithin n r l → AreWithin n r (ls ++ l ∷ [])
within_opened n r [] l w one = (one, tt)
within_opened n r (x ∷ ls) l w one = (w.0, within_opened n r ls l w.1 one)

within_loaded : (n r s place : ℕ) (ls : List Live) → place < n → AreWithin n r ls → AreWithin n r (loaded s place ls)
within_loaded n r s place [] less w = tt
within_loaded n r s place (l ∷ ls) less w =
    elim (s == l.sub) as
    (λ b. AreWithin n r (cond b (record l { cursor = Some place } ∷ ls) (l ∷ loaded s place ls)))
    [ true ↦ ((w.0.0, less), w.1) | false ↦ (w.0, within_loaded n r s place ls less w.1) ]

moved_within : (n count : ℕ) (o : Option ℕ) → MayAdvance n count o → IfSome (moved count o) (λ cursor. cursor < n)
moved_within n count None may = absurd may
moved_within n count (Some cursor) may = may.1

within_advanced : (n r s count : ℕ) (ls : List Live) → MayAdvance n count (cursor_of s ls) → AreWithin n r ls → AreWithin n r (advanced s count ls)
within_advanced n r s count [] may w = tt
within_advanced n r s count (l ∷ ls) may w =
    elim (s == l.sub) as
    (λ b. MayAdvance n count (cond b l.cursor (cursor_of s ls)) →
    AreWithin n r (cond b (record l { cursor = moved count l.cursor } ∷ ls) (l ∷ advanced s count ls))) [
      | true ↦ λ m. ((w.0.0, moved_within n count l.cursor m), w.1)
      | false ↦ λ m. (w.0, within_advanced n r s count ls m w.1)
    ] may

within_closed : (n r s : ℕ) (ls : List Live) → AreWithin n r ls → AreWithin n r (closed s ls)
within_closed n r s [] w = tt
within_closed n r s (l ∷ ls) w = elim (not (s == l.sub)) as
    (λ b. AreWithin n r (cond b (l ∷ closed s ls) (closed s ls))) [ true ↦ (w.0, within_closed n r s ls w.1) | false ↦ within_closed n r s ls w.1 ]

moment_within : (C : List Moment) (place : ℕ) (m : Moment) → moment_at C place ≡ Some m → place < length C
moment_within [] place m e = cc e
moment_within (x ∷ C) zero m e = omega arith
moment_within (x ∷ C) (suc place) m e = omega (arith, moment_within C place m e)

end_within : (C : List Moment) (place k : ℕ) (end : End) → end_at C place k ≡ Some end → place < length C
end_within C place k end e = by (moment_at C place) refl e
  where
    by : (o : Option Moment) → moment_at C place ≡ o → option_and_then (λ (s : Status). s.ended) (run_of k o) ≡ Some end → place < length C
    by None is f = cc f
    by (Some m) is f = moment_within C place m is

reached : (n count : ℕ) (o : Option ℕ) → MayAdvance n count o → or_zero o + count < n
reached n count None may = absurd may
reached n count (Some cursor) may = may.1

own_places : (app : App) (number : ℕ) (C : List Moment) (st : State) (i : Item) → CanFollow app number C st i → HasPlaces (length C) st →
    HasPlaces (length C) (own_after st i)
own_places app number C st (item.subscribe s message cursors) f p =
    record { reach = p.reach; lives = within_opened (length C) st.reach st.subs (opening st s message cursors) p.lives (omega arith, tt) }
own_places app number C st (item.load s place) f p = record {
  reach = under st.reach place (length C) p.reach f.1;
  lives = within_loaded (length C) (max st.reach place) s place st.subs f.1
      (further (length C) st.reach (max st.reach place) st.subs (left_of st.reach place) p.lives);
}
own_places app number C st (item.advance s count) f p =
    let to = or_zero (cursor_of s st.subs) + count in
    record {
      reach = under st.reach to (length C) p.reach (reached (length C) count (cursor_of s st.subs) f);
      lives = within_advanced (length C) (max st.reach to) s count st.subs f
          (further (length C) st.reach (max st.reach to) st.subs (left_of st.reach to) p.lives);
    }
own_places app number C st (item.close s message) f p = record { reach = p.reach; lives = within_closed (length C) st.reach s st.subs p.lives }
own_places app number C st (item.finished k place) f p = record {
  reach = under st.reach place (length C) p.reach (end_within C place k f.1.end f.1.is);
  lives = further (length C) st.reach (max st.reach place) st.subs (left_of st.reach place) p.lives;
}
own_places app number C st (item.call k message seed) f p = record { reach = p.reach; lives = p.lives }
own_places app number C st (item.refused k place) f p = record { reach = p.reach; lives = p.lives }
own_places app number C st i f p = record { reach = p.reach; lives = p.lives }

places_from : (app : App) (number : ℕ) (C : List Moment) (st : State) (items : List Item) → FitsFrom app number C st items → HasPlaces (length C) st →
    HasPlaces (length C) (state_from st items)
places_from app number C st [] f p = p
places_from app number C st (i ∷ items) f p = let own = own_places app number C st i f.0 p in places_from app number C (after st i) items f.1
    (record { reach = own.reach; lives = own.lives })

-- each floor and each cursor is a place of the history
pub places_within : (app : App) (number : ℕ) (C : List Moment) (items : List Item) → Fits app number C items → zero < length C →
    HasPlaces (length C) (state_of items)
places_within app number C items f some = places_from app number C started items f (record { reach = some; lives = tt })
