-- What an item leaves of the subscriptions that it isn't about.
use Rattle.std.specs.Prelude.{◌≡◌, ℕ, ◌==◌, List, [], ◌∷◌, ◌++◌, true, false, cond, not, Some, refl}
use Rattle.std.proofs.Common.{ap, sym, subst, ◌∙◌}
use Rattle.std.proofs.lemmas.Bool.{eqb-true}
use Rattle.ddp_messages.specs.ClientMessage.{ClientMessage}
use Rattle.publication.specs.Cursors.{ACursors}
use Rattle.session_model.specs.Items.{Item}
use Rattle.session_model.specs.Items as item
use Rattle.session_model.specs.Subscriptions.{Live, of_sub, loaded, moved, advanced, closed}
use Rattle.session_model.specs.State.{State, opening, after}
use Rattle.session_model.specs.Shown.{subject}

module _ {A : Type 0} (f : Live → A) (otherwise : A) where
  pub same_loaded : (s r place : ℕ) (ls : List Live) → (r == s) ≡ false → of_sub f otherwise r (loaded s place ls) ≡ of_sub f otherwise r ls
  same_loaded s r place [] e = refl
  same_loaded s r place (l ∷ ls) e =
      elim (s == l.sub) as
      (λ b. s == l.sub ≡ b → of_sub f otherwise r (cond b (record l { cursor = Some place } ∷ ls) (l ∷ loaded s place ls)) ≡ of_sub f otherwise r (l ∷ ls)) [
        | true ↦ λ is. let differs : (r == l.sub) ≡ false = subst (λ x. (r == x) ≡ false) (eqb-true s l.sub is) e in
            ap (λ b. cond b (f (record l { cursor = Some place })) (of_sub f otherwise r ls)) differs
            ∙ sym (ap (λ b. cond b (f l) (of_sub f otherwise r ls)) differs)
        | false ↦ λ is. ap (cond (r == l.sub) (f l)) (same_loaded s r place ls e)
      ] refl

  pub same_advanced : (s r count : ℕ) (ls : List Live) → (r == s) ≡ false → of_sub f otherwise r (advanced s count ls) ≡ of_sub f otherwise r ls
  same_advanced s r count [] e = refl
  same_advanced s r count (l ∷ ls) e =
      elim (s == l.sub) as
      (λ b. s == l.sub ≡ b →
      of_sub f otherwise r (cond b (record l { cursor = moved count l.cursor } ∷ ls) (l ∷ advanced s count ls)) ≡ of_sub f otherwise r (l ∷ ls)) [
        | true ↦ λ is. let differs : (r == l.sub) ≡ false = subst (λ x. (r == x) ≡ false) (eqb-true s l.sub is) e in
            ap (λ b. cond b (f (record l { cursor = moved count l.cursor })) (of_sub f otherwise r ls)) differs
            ∙ sym (ap (λ b. cond b (f l) (of_sub f otherwise r ls)) differs)
        | false ↦ λ is. ap (cond (r == l.sub) (f l)) (same_advanced s r count ls e)
      ] refl

  pub same_closed : (s r : ℕ) (ls : List Live) → (r == s) ≡ false → of_sub f otherwise r (closed s ls) ≡ of_sub f otherwise r ls
  same_closed s r [] e = refl
  same_closed s r (l ∷ ls) e =
      elim (s == l.sub) as (λ b. s == l.sub ≡ b → of_sub f otherwise r (cond (not b) (l ∷ closed s ls) (closed s ls)) ≡ of_sub f otherwise r (l ∷ ls)) [
        | true ↦ λ is. let differs : (r == l.sub) ≡ false = subst (λ x. (r == x) ≡ false) (eqb-true s l.sub is) e in
            same_closed s r ls e ∙ sym (ap (λ b. cond b (f l) (of_sub f otherwise r ls)) differs)
        | false ↦ λ is. ap (cond (r == l.sub) (f l)) (same_closed s r ls e)
      ] refl

  -- of one that is opened f says what it says of none
  pub same_opened : (r : ℕ) (ls : List Live) (l : Live) → f l ≡ otherwise → of_sub f otherwise r (ls ++ l ∷ []) ≡ of_sub f otherwise r ls
  same_opened r [] l e = ap (λ x. cond (r == l.sub) x otherwise) e
      ∙ elim (r == l.sub) as (λ b. cond b otherwise otherwise ≡ otherwise) [ true ↦ refl | false ↦ refl ]
  same_opened r (x ∷ ls) l e = ap (cond (r == x.sub) (f x)) (same_opened r ls l e)

  pub others_stay_at : (st : State) (i : Item) (r : ℕ) →
      ((s : ℕ) (message : ClientMessage) (cursors : ACursors) → f (opening st s message cursors) ≡ otherwise) → (r == subject i) ≡ false →
      of_sub f otherwise r (after st i).subs ≡ of_sub f otherwise r st.subs
  others_stay_at st (item.subscribe s message cursors) r new e = same_opened r st.subs (opening st s message cursors) (new s message cursors)
  others_stay_at st (item.load s place) r new e = same_loaded s r place st.subs e
  others_stay_at st (item.advance s count) r new e = same_advanced s r count st.subs e
  others_stay_at st (item.close s message) r new e = same_closed s r st.subs e
  others_stay_at st i r new e = refl
