-- Laws: A subscription has one `ready` once it is loaded, and after it one `nosub` once it is closed.
use Rattle.std.specs.Prelude.{◌≡◌, ℕ, ◌==◌, List, [], ◌∷◌, ◌++◌, Bool, true, false, cond, ◌||◌, Option, Some, None, is_some, refl}
use Rattle.std.proofs.Common.{ap, ap₂, sym, subst, ◌∙◌, append-nil}
use Rattle.std.proofs.lemmas.List.{append_assoc}
use Rattle.std.proofs.lemmas.Bool.{eqb-true}
use Rattle.std.specs.Option.{option_or}
use Rattle.app_model.specs.App.{App}
use Rattle.session_model.specs.Items.{Item}
use Rattle.session_model.specs.Items as item
use Rattle.session_model.specs.Subscriptions.{cursor_of}
use Rattle.session_model.specs.State.{State, started, after}
use Rattle.session_model.specs.Moments.{Moment}
use Rattle.session_model.specs.Fits.{CanFollow, FitsFrom, Fits}
use Rattle.session_model.specs.LooksBack.{closes, is_closed, load_by, loaded_at, ready, ended, answer_by, answers_of, answers_by_fate}
use Rattle.session_journal_laws.specs.HandledLaws.{close_live}
use Rattle.session_journal_laws.specs.Tracking.{Tracks}
use Rattle.session_journal_laws.specs.TrackingLaws.{tracks_first, tracks_after, closed-append, loaded-append, live_below, unloaded_yet, loaded_here}
use Rattle.session_journal_laws.specs.SubAnswers.{KnowsAnswers}

answers-append : (s : ℕ) (items : List Item) (i : Item) → answers_of s (items ++ i ∷ []) ≡ answers_of s items ++ answer_by s i
answers-append s [] i = append-nil (answer_by s i)
answers-append s (j ∷ items) i = ap (λ xs. answer_by s j ++ xs) (answers-append s items i)
    ∙ sym (append_assoc (answer_by s j) (answers_of s items) (answer_by s i))

or_false : (b : Bool) → (b || false) ≡ b
or_false true = refl
or_false false = refl

or_none : (o : Option ℕ) → option_or o None ≡ o
or_none None = refl
or_none (Some n) = refl

next_answers : (app : App) (number : ℕ) (C : List Moment) (st : State) (items : List Item) (i : Item) → Tracks st items → CanFollow app number C st i →
    KnowsAnswers items → KnowsAnswers (items ++ i ∷ [])
next_answers app number C st items i t f h s =
    answers-append s items i ∙ (ap (λ xs. xs ++ answer_by s i) (h s)
    ∙ (here i f ∙ sym (ap₂ (λ o b. answers_by_fate (is_some o) b) (loaded-append s items i) (closed-append s items i))))
  where
    none : (answers_by_fate (is_some (loaded_at s items)) (is_closed s items) ++ []) ≡ answers_by_fate (is_some (option_or (loaded_at s items) None))
        (is_closed s items || false)
    none = append-nil (answers_by_fate (is_some (loaded_at s items)) (is_closed s items))
        ∙ sym (ap₂ (λ o b. answers_by_fate (is_some o) b) (or_none (loaded_at s items)) (or_false (is_closed s items)))

    closed_now : (a : Bool) → (answers_by_fate a false ++ ended ∷ []) ≡ answers_by_fate a true
    closed_now true = refl
    closed_now false = refl

    here : (i : Item) → CanFollow app number C st i →
        (answers_by_fate (is_some (loaded_at s items)) (is_closed s items) ++ answer_by s i) ≡ answers_by_fate
        (is_some (option_or (loaded_at s items) (load_by s i))) (is_closed s items || closes s i)
    here (item.load r place) f =
        elim (s == r) as
        (λ b. s == r ≡ b → (answers_by_fate (is_some (loaded_at s items)) (is_closed s items) ++ cond b (ready ∷ []) [])
        ≡ answers_by_fate (is_some (option_or (loaded_at s items) (cond b (Some place) None))) (is_closed s items || false)) [
          | true ↦ λ is.
              let same : r ≡ s = sym (eqb-true s r is) in
              let l = loaded_here r place st.subs f.0 in
              let not_closed : is_closed s items ≡ false = subst (λ x. is_closed x items ≡ false) same (live_below st items t r l.2).1 in
              let not_loaded : loaded_at s items ≡ None =
              unloaded_yet st items t s not_closed (sym (t.cursors s) ∙ subst (λ x. cursor_of x st.subs ≡ None) same l.1) in
              ap₂ (λ o b. answers_by_fate (is_some o) b ++ ready ∷ []) not_loaded not_closed
              ∙ sym (ap₂ (λ o b. answers_by_fate (is_some (option_or o (Some place))) (b || false)) not_loaded not_closed)
          | false ↦ λ is. none
        ] refl
    here (item.close r message) f =
        elim (s == r) as
        (λ b. s == r ≡ b → (answers_by_fate (is_some (loaded_at s items)) (is_closed s items) ++ cond b (ended ∷ []) [])
        ≡ answers_by_fate (is_some (option_or (loaded_at s items) None)) (is_closed s items || b)) [
          | true ↦ λ is.
              let same : r ≡ s = sym (eqb-true s r is) in
              let not_closed : is_closed s items ≡ false =
              subst (λ x. is_closed x items ≡ false) same (live_below st items t r (close_live app number st message r message f.made)).1 in
              ap (λ b. answers_by_fate (is_some (loaded_at s items)) b ++ ended ∷ []) not_closed
              ∙ (closed_now (is_some (loaded_at s items)) ∙ sym (ap₂ (λ o b. answers_by_fate (is_some o) (b || true)) (or_none (loaded_at s items)) not_closed))
          | false ↦ λ is. none
        ] refl
    here i f = none

answers_from : (app : App) (number : ℕ) (C : List Moment) (st : State) (before items : List Item) → Tracks st before → KnowsAnswers before →
    FitsFrom app number C st items → KnowsAnswers (before ++ items)
answers_from app number C st before [] t h f = subst KnowsAnswers (sym (append-nil before)) h
answers_from app number C st before (i ∷ items) t h f =
    subst KnowsAnswers (append_assoc before (i ∷ []) items)
    (answers_from app number C (after st i) (before ++ i ∷ []) items (tracks_after st before t app number C i f.0)
    (next_answers app number C st before i t f.0 h) f.1)

pub sub_answers : (app : App) (number : ℕ) (C : List Moment) (items : List Item) → Fits app number C items → (s : ℕ) →
    answers_of s items ≡ answers_by_fate (is_some (loaded_at s items)) (is_closed s items)
sub_answers app number C items f = answers_from app number C started [] items tracks_first (λ s. refl) f
