-- Laws of how far runs were at earlier places.
use Rattle.std.specs.Prelude.{◌≡◌, ℕ, zero, suc, ◌≤◌, ◌<◌, ◌+◌, List, [], ◌∷◌, ◌++◌, length, take, Bool, true, false, cond, nat_le, Option, None}
use Rattle.std.specs.Prelude.{Some, is_some, option_map, option_and_then, IfSome, refl, if◌then◌else◌}
use Rattle.std.specs.Ordering.{eq_by_cmp}
use Rattle.std.proofs.Common.{ap, sym, subst, ◌∙◌, arith, length-append}
use Rattle.std.proofs.lemmas.Bool.{leb-true, leb-false, le-leb, lt-leb}
use Rattle.map_model.specs.Maps.{at, set}
use Rattle.map_model.specs.MapLaws.{at-set, key_is}
use Rattle.program_steps.specs.declared.outcome.Status.{Status}
use Rattle.program_steps.specs.Runs.{Outcome, End}
use Rattle.history_model.specs.declared.entry.Entry.{Entry}
use Rattle.history_model.specs.History.{Programs, RunKey, run_cmp, Begun, Runs, Held, end_of, status_of, held, held_at, status_in, status_at}
use Rattle.history_model.specs.HistoryLaws.{run_order, held_at-longer}
use Rattle.history_model.specs.RunsLaws.{held_is}
use Rattle.store_machine.specs.Places.{Life, Lives, IsLife, AreLives, is_by, end_by, told, status_by, put, noted}

-- ---- the present place

is_by-within : (n : ℕ) (o : Option ℕ) → IfSome o (λ p. p ≤ n) → is_by n o ≡ is_some o
is_by-within n None h = refl
is_by-within n (Some p) h = le-leb p n h

told_now : (n : ℕ) (l : Life) → IsLife n l → status_by n l ≡ Some (status_of l.now)
told_now n l i =
    ap (λ b. cond b (Some (told (is_by n l.unblocked) (end_by n l.now))) None) (le-leb l.begun n i.begun)
    ∙ (ap (λ b. Some (told (is_by n l.unblocked) (cond b (end_of l.now) None))) (le-leb l.now.at n i.at)
    ∙ ap (λ u. Some (told u (end_of l.now))) (is_by-within n l.unblocked i.unblocked ∙ sym i.free))

all_told_now : (n : ℕ) (o : Option Life) → IfSome o (IsLife n) → option_and_then (status_by n) o ≡ option_map status_of (option_map (λ (l : Life). l.now) o)
all_told_now n None i = refl
all_told_now n (Some l) i = told_now n l i

take_all : {A : Type 0} (xs : List A) → take (length xs) xs ≡ xs
take_all [] = refl
take_all (x ∷ xs) = ap (λ ys. x ∷ ys) (take_all xs)

-- at the end of the history
told_at_end : (app : Programs) (history : List Entry) (lives : Lives) →
    ((key : RunKey) → option_map (λ (l : Life). l.now) (lives key) ≡ at run_cmp (held app history).runs key) →
    ((key : RunKey) → IfSome (lives key) (IsLife (length history)))
    → (key : RunKey) → option_and_then (status_by (length history)) (lives key) ≡ status_at app history (length history) key.0 key.1
told_at_end app history lives now are key =
    all_told_now (length history) (lives key) (are key)
    ∙ (ap (option_map status_of) (now key) ∙ sym (ap (λ es. status_in (held app es) key.0 key.1) (take_all history)))

-- ---- one entry more

one_longer : {A : Type 0} (xs : List A) (x : A) → length (xs ++ x ∷ []) ≡ suc (length xs)
one_longer xs x = omega (arith, length-append xs (x ∷ []))

grown : (app : Programs) (history : List Entry) (e : Entry) (lives after : Lives) → AreLives app history lives
    → ((key : RunKey) → option_map (λ (l : Life). l.now) (after key) ≡ at run_cmp (held app (history ++ e ∷ [])).runs key) →
    ((key : RunKey) → IfSome (after key) (IsLife (suc (length history))))
    → ((place : ℕ) → place ≤ length history → (key : RunKey) →
    option_and_then (status_by place) (after key) ≡ option_and_then (status_by place) (lives key)) → AreLives app (history ++ e ∷ []) after
grown app history e lives after a now are earlier = record { now = now; are = own; places = places }
  where
    own : (key : RunKey) → IfSome (after key) (IsLife (length (history ++ e ∷ [])))
    own key = subst (λ n. IfSome (after key) (IsLife n)) (sym (one_longer history e)) (are key)

    before : (place : ℕ) → place ≤ length history → (key : RunKey) →
        option_and_then (status_by place) (after key) ≡ status_at app (history ++ e ∷ []) place key.0 key.1
    before place fits key = earlier place fits key
        ∙ (a.places place fits key ∙ sym (ap (λ h. status_in h key.0 key.1) (held_at-longer app history (e ∷ []) place fits)))

    by : (place : ℕ) → place ≤ length (history ++ e ∷ []) → (key : RunKey) → (b : Bool) → nat_le place (length history) ≡ b →
        option_and_then (status_by place) (after key) ≡ status_at app (history ++ e ∷ []) place key.0 key.1
    by place fits key true is = before place (leb-true place (length history) is) key
    by place fits key false is =
        let behind = leb-false place (length history) is in
        let last : length (history ++ e ∷ []) ≡ place = omega (arith, behind, fits, one_longer history e) in
        subst (λ p. option_and_then (status_by p) (after key) ≡ status_at app (history ++ e ∷ []) p key.0 key.1) last
        (told_at_end app (history ++ e ∷ []) after now own key)

    places : (place : ℕ) → place ≤ length (history ++ e ∷ []) → (key : RunKey) →
        option_and_then (status_by place) (after key) ≡ status_at app (history ++ e ∷ []) place key.0 key.1
    places place fits key = by place fits key (nat_le place (length history)) refl

more_life : (n : ℕ) (o : Option Life) → IfSome o (IsLife n) → IfSome o (IsLife (suc n))
more_life n None i = tt
more_life n (Some l) i = record { begun = omega (arith, i.begun); unblocked = more l.unblocked i.unblocked; free = i.free; at = omega (arith, i.at) }
  where
    more : (o : Option ℕ) → IfSome o (λ p. p ≤ n) → IfSome o (λ p. p ≤ suc n)
    more None h = tt
    more (Some p) h = omega (arith, h)

-- an entry that leaves the runs leaves their lives
pub lives_stay : (app : Programs) (history : List Entry) (e : Entry) (lives : Lives) → AreLives app history lives →
    (held app (history ++ e ∷ [])).runs ≡ (held app history).runs → AreLives app (history ++ e ∷ []) lives
lives_stay app history e lives a same =
    grown app history e lives lives a (λ key. a.now key ∙ sym (ap (λ (runs : Runs). at run_cmp runs key) same))
    (λ key. more_life (length history) (lives key) (a.are key)) (λ place fits key. refl)

put_now : (b : Bool) (l : Life) (o : Option Life) →
    option_map (λ (l : Life). l.now) (cond b (Some l) o) ≡ cond b (Some l.now) (option_map (λ (l : Life). l.now) o)
put_now true l o = refl
put_now false l o = refl

put_is : (n : ℕ) (b : Bool) (l : Life) (o : Option Life) → IsLife n l → IfSome o (IsLife n) → IfSome (cond b (Some l) o) (IsLife n)
put_is n true l o one all = one
put_is n false l o one all = all

-- an entry that puts a run puts its life, if this tells of earlier places what was told of them
pub lives_put : (app : Programs) (history : List Entry) (e : Entry) (lives : Lives) (key : RunKey) (l : Life) → AreLives app history lives →
    IsLife (suc (length history)) l
    → (held app (history ++ e ∷ [])).runs ≡ set run_cmp (held app history).runs key (Some l.now) →
    ((place : ℕ) → place ≤ length history → status_by place l ≡ option_and_then (status_by place) (lives key))
    → AreLives app (history ++ e ∷ []) (put lives key l)
lives_put app history e lives key l a one runs told_so = grown app history e lives (put lives key l) a now are earlier
  where
    now : (q : RunKey) → option_map (λ (l : Life). l.now) (put lives key l q) ≡ at run_cmp (held app (history ++ e ∷ [])).runs q
    now q =
        put_now (eq_by_cmp run_cmp q key) l (lives q)
        ∙ (ap (cond (eq_by_cmp run_cmp q key) (Some l.now)) (a.now q)
        ∙ (sym (at-set run_order (held app history).runs key (Some l.now) q (held_is app history).sorted) ∙ sym (ap (λ (runs : Runs). at run_cmp runs q) runs)))

    are : (q : RunKey) → IfSome (put lives key l q) (IsLife (suc (length history)))
    are q = put_is (suc (length history)) (eq_by_cmp run_cmp q key) l (lives q) one (more_life (length history) (lives q) (a.are q))

    by : (place : ℕ) → place ≤ length history → (q : RunKey) → (b : Bool) → eq_by_cmp run_cmp q key ≡ b →
        option_and_then (status_by place) (cond b (Some l) (lives q)) ≡ option_and_then (status_by place) (lives q)
    by place fits q true is = told_so place fits ∙ ap (λ k. option_and_then (status_by place) (lives k)) (sym (key_is run_order q key is))
    by place fits q false is = refl

    earlier : (place : ℕ) → place ≤ length history → (q : RunKey) →
        option_and_then (status_by place) (put lives key l q) ≡ option_and_then (status_by place) (lives q)
    earlier place fits q = by place fits q (eq_by_cmp run_cmp q key) refl

-- ---- a run that begins, and one that goes on

-- nothing was told of it before
pub begun_told : (n : ℕ) (l : Life) (o : Option Life) (place : ℕ) → place ≤ n → l.begun ≡ suc n → o ≡ None →
    status_by place l ≡ option_and_then (status_by place) o
begun_told n l o place fits begun none =
    let late : place < l.begun = omega (arith, fits, begun) in
    ap (λ b. cond b (Some (told (is_by place l.unblocked) (end_by place l.now))) None) (lt-leb l.begun place late)
    ∙ sym (ap (option_and_then (status_by place)) none)

is_by-noted : (place n : ℕ) (o : Option ℕ) (free : Bool) → place ≤ n → is_by place (noted o free (suc n)) ≡ is_by place o
is_by-noted place n (Some p) free fits = refl
is_by-noted place n None true fits = let late : place < suc n = omega (arith, fits) in lt-leb (suc n) place late
is_by-noted place n None false fits = refl

never : (b : Bool) (o : Option End) → o ≡ None → cond b o None ≡ None
never true o none = none
never false o none = refl

end_of-none : (b : Begun) → b.run.outcome ≡ None → end_of b ≡ None
end_of-none b none = ap (option_map (λ o. let e : End = record { outcome = o; at = b.at } in e)) none

-- what was told of it before stays
pub stepped_told : (n : ℕ) (l old : Life) (o : Option Life) (free : Bool) (place : ℕ) → place ≤ n → o ≡ Some old → l.begun ≡ old.begun →
    l.unblocked ≡ noted old.unblocked free (suc n) → l.now.at ≡ suc n → old.now.run.outcome ≡ None
    → status_by place l ≡ option_and_then (status_by place) o
stepped_told n l old o free place fits was begun unblocked last goes =
    let late : place < l.now.at = omega (arith, fits, last) in
    let end : end_by place l.now ≡ end_by place old.now = ap (λ b. cond b (end_of l.now) None) (lt-leb l.now.at place late)
    ∙ sym (never (nat_le old.now.at place) (end_of old.now) (end_of-none old.now goes)) in
    let let_go : is_by place l.unblocked ≡ is_by place old.unblocked = ap (is_by place) unblocked ∙ is_by-noted place n old.unblocked free fits in
    ap (λ b. cond (nat_le b place) (Some (told (is_by place l.unblocked) (end_by place l.now))) None) begun
    ∙ (ap (λ u. cond (nat_le old.begun place) (Some (told u (end_by place l.now))) None) let_go
    ∙ (ap (λ x. cond (nat_le old.begun place) (Some (told (is_by place old.unblocked) x)) None) end ∙ sym (ap (option_and_then (status_by place)) was)))

noted_within : (n : ℕ) (o : Option ℕ) (free : Bool) → IfSome o (λ p. p ≤ n) → IfSome (noted o free (suc n)) (λ p. p ≤ suc n)
noted_within n (Some p) free h = omega (arith, h)
noted_within n None true h = omega arith
noted_within n None false h = tt

noted_free : (o : Option ℕ) (free : Bool) (n : ℕ) → (is_some o ≡ true → free ≡ true) → free ≡ is_some (noted o free n)
noted_free (Some p) free n h = h refl
noted_free None true n h = refl
noted_free None false n h = refl

-- a run that goes on lives on
pub stepped_life : (n : ℕ) (old : Life) (b : Begun) → IsLife n old → b.at ≡ suc n → (old.now.run.unblocked ≡ true → b.run.unblocked ≡ true) →
    IsLife (suc n) (record { begun = old.begun; unblocked = noted old.unblocked b.run.unblocked (suc n); now = b })
stepped_life n old b i last stays = record {
  begun = omega (arith, i.begun);
  unblocked = noted_within n old.unblocked b.run.unblocked i.unblocked;
  free = noted_free old.unblocked b.run.unblocked (suc n) (λ some. stays (i.free ∙ some));
  at = omega (arith, last);
}

-- no runs have begun before the first entry
pub no_lives : (app : Programs) → AreLives app [] (λ key. None)
no_lives app = record { now = λ key. refl; are = λ key. tt; places = places }
  where
    places : (place : ℕ) → place ≤ 0 → (key : RunKey) → None ≡ status_at app [] place key.0 key.1
    places zero fits key = refl
    places (suc n) fits key = absurd (omega (arith, fits))
