-- One item more behind the runs.
use Rattle.std.proofs.Common.{◌≡◌, ℕ, zero, suc, ◌-◌, ◌≤◌, ◌<◌, ◌==◌, List, [], ◌∷◌, ◌++◌, map, length, get_or, true, false, cond, Option, None, Some, refl, ap, ap₂, sym, subst, ◌∙◌, arith}
use Rattle.std.specs.Prelude.{slice_get, slice_set, is_none, ◌&&◌}
use Rattle.std.proofs.lemmas.Bool.{eqb-true, false≢true}
use Rattle.std.proofs.lemmas.Option.{none-some, same_Some, slice_get-get_or}
use Rattle.value_model.specs.TruthLaws.{both_true}
use Rattle.session_journal_laws.specs.declared.stored.Stored.{Stored}
use Rattle.session_journal_laws.specs.declared.stored.Stored.TheVariants as stored
use Rattle.session_state.specs.declared.journal.Line.{Line}
use Rattle.session_state.specs.declared.journal.Record.{Record}
use Rattle.session_state.specs.Journal.{Run, are_equal_advances, is_run, put_before, runs}
use Rattle.session_state.specs.Kept.{as_run, repeated, expanded, goes_on, put_behind, counted_on}

same_item : (i j : Stored) → are_equal_advances i j ≡ true → i ≡ j
same_item (stored.Advance s m) (stored.Advance t n) e =
    let parts = both_true (s == t) (m == n) e in
    ap₂ (λ (a b : ℕ). stored.Advance a b) (eqb-true s t parts.0) (eqb-true m n parts.1)
same_item i j e = absurd (false≢true e)

same_id : (a b : Option (List ℕ)) → is_none a ≡ true → is_none b ≡ true → a ≡ b
same_id None None d e = refl
same_id None (Some b) d e = absurd (false≢true e)
same_id (Some a) b d e = absurd (false≢true d)

-- lines of one run are equal
pub same_line : (l m : Line) → is_run l m ≡ true → l ≡ m
same_line l m e =
    let parts = both_true (are_equal_advances l.item m.item) (is_none l.id && is_none m.id) e in
    let ids = both_true (is_none l.id) (is_none m.id) parts.1 in
    ap₂ (λ (i : Stored) (id : Option (List ℕ)). record { item = i; id = id }) (same_item l.item m.item parts.0) (same_id l.id m.id ids.0 ids.1)

before_behind : (l : Line) (rs : List Run) (m : Line) → put_before l (put_behind rs m) ≡ put_behind (put_before l rs) m
before_behind l [] m = refl
before_behind l (r ∷ []) m = elim (is_run l r.0) as (λ a. is_run l r.0 ≡ a → put_before l (put_behind (r ∷ []) m) ≡ put_behind (cond a ((l, suc r.1) ∷ []) ((l, 1) ∷ r ∷ [])) m) [
  | true ↦ λ e.
      let same : l ≡ r.0 = same_line l r.0 e in
      let alike : is_run r.0 m ≡ is_run l m = ap (λ k. is_run k m) (sym same) in
      elim (is_run l m) as (λ b. is_run r.0 m ≡ b → put_before l (put_behind (r ∷ []) m) ≡ cond b ((l, suc (suc r.1)) ∷ []) ((l, suc r.1) ∷ (m, 1) ∷ [])) [
        | true ↦ λ h. ap (λ b. put_before l (cond b ((r.0, suc r.1) ∷ []) (r ∷ (m, 1) ∷ []))) h ∙ ap (λ b. cond b ((l, suc (suc r.1)) ∷ []) ((l, 1) ∷ (r.0, suc r.1) ∷ [])) e
        | false ↦ λ h. ap (λ b. put_before l (cond b ((r.0, suc r.1) ∷ []) (r ∷ (m, 1) ∷ []))) h ∙ ap (λ b. cond b ((l, suc r.1) ∷ (m, 1) ∷ []) ((l, 1) ∷ r ∷ (m, 1) ∷ [])) e
      ] alike
  | false ↦ λ e. elim (is_run r.0 m) as (λ b. put_before l (cond b ((r.0, suc r.1) ∷ []) (r ∷ (m, 1) ∷ [])) ≡ (l, 1) ∷ cond b ((r.0, suc r.1) ∷ []) (r ∷ (m, 1) ∷ [])) [
    | true ↦ ap (λ b. cond b ((l, suc (suc r.1)) ∷ []) ((l, 1) ∷ (r.0, suc r.1) ∷ [])) e
    | false ↦ ap (λ b. cond b ((l, suc r.1) ∷ (m, 1) ∷ []) ((l, 1) ∷ r ∷ (m, 1) ∷ [])) e
  ]
] refl
before_behind l (r ∷ s ∷ rs) m = elim (is_run l r.0) as (λ a. cond a ((l, suc r.1) ∷ put_behind (s ∷ rs) m) ((l, 1) ∷ r ∷ put_behind (s ∷ rs) m) ≡ put_behind (cond a ((l, suc r.1) ∷ s ∷ rs) ((l, 1) ∷ r ∷ s ∷ rs)) m) [
  | true ↦ refl
  | false ↦ refl
]

pub runs_behind : (ls : List Line) (m : Line) → runs (ls ++ m ∷ []) ≡ put_behind (runs ls) m
runs_behind [] m = refl
runs_behind (l ∷ ls) m = ap (put_before l) (runs_behind ls m) ∙ before_behind l (runs ls) m

-- ---- the records

pub runs_counted : (rs : List Record) (m : Line) → goes_on (map as_run rs) m ≡ true → map as_run (counted_on rs) ≡ put_behind (map as_run rs) m
runs_counted [] m e = absurd (false≢true e)
runs_counted (r ∷ []) m e = sym (ap (λ b. cond b ((r.line, suc r.count) ∷ []) (as_run r ∷ (m, 1) ∷ [])) e)
runs_counted (r ∷ s ∷ rs) m e = ap (λ (rest : List Run). as_run r ∷ rest) (runs_counted (s ∷ rs) m e)

pub runs_pushed : (rs : List Record) (m : Line) → goes_on (map as_run rs) m ≡ false → map as_run (rs ++ record { line = m; count = 1 } ∷ []) ≡ put_behind (map as_run rs) m
runs_pushed [] m e = refl
runs_pushed (r ∷ []) m e = sym (ap (λ b. cond b ((r.line, suc r.count) ∷ []) (as_run r ∷ (m, 1) ∷ [])) e)
runs_pushed (r ∷ s ∷ rs) m e = ap (λ (rest : List Run). as_run r ∷ rest) (runs_pushed (s ∷ rs) m e)

repeated_more : (n : ℕ) (l : Line) → l ∷ repeated n l ≡ repeated n l ++ l ∷ []
repeated_more zero l = refl
repeated_more (suc n) l = ap (λ ls. l ∷ ls) (repeated_more n l)

nothing_behind : (ls : List Line) → ls ++ [] ≡ ls
nothing_behind [] = refl
nothing_behind (l ∷ ls) = ap (λ rest. l ∷ rest) (nothing_behind ls)

regrouped : (xs ys zs : List Line) → (xs ++ ys) ++ zs ≡ xs ++ (ys ++ zs)
regrouped [] ys zs = refl
regrouped (x ∷ xs) ys zs = ap (λ rest. x ∷ rest) (regrouped xs ys zs)

pub lines_counted : (rs : List Record) (m : Line) → goes_on (map as_run rs) m ≡ true → expanded (counted_on rs) ≡ expanded rs ++ m ∷ []
lines_counted [] m e = absurd (false≢true e)
lines_counted (r ∷ []) m e =
    ap (λ ls. ls ++ []) (repeated_more r.count r.line)
    ∙ (nothing_behind (repeated r.count r.line ++ r.line ∷ [])
    ∙ (ap (λ l. repeated r.count r.line ++ l ∷ []) (same_line r.line m e) ∙ ap (λ ls. ls ++ m ∷ []) (sym (nothing_behind (repeated r.count r.line)))))
lines_counted (r ∷ s ∷ rs) m e = ap (λ ls. repeated r.count r.line ++ ls) (lines_counted (s ∷ rs) m e) ∙ sym (regrouped (repeated r.count r.line) (expanded (s ∷ rs)) (m ∷ []))

pub lines_pushed : (rs : List Record) (m : Line) → expanded (rs ++ record { line = m; count = 1 } ∷ []) ≡ expanded rs ++ m ∷ []
lines_pushed [] m = refl
lines_pushed (r ∷ rs) m = ap (λ ls. repeated r.count r.line ++ ls) (lines_pushed rs m) ∙ sym (regrouped (repeated r.count r.line) (expanded rs) (m ∷ []))

-- ---- the last record

pub last_goes_on : (rs : List Record) (n : ℕ) (r : Record) (m : Line) → length rs ≡ suc n → slice_get rs n ≡ Some r → is_run r.line m ≡ goes_on (map as_run rs) m
last_goes_on [] n r m len e = absurd (none-some r e)
last_goes_on (x ∷ []) zero r m len e = ap (λ (y : Record). is_run y.line m) (sym (same_Some x r e))
last_goes_on (x ∷ []) (suc n) r m len e = absurd (omega (arith, len))
last_goes_on (x ∷ y ∷ rs) zero r m len e = absurd (omega (arith, len))
last_goes_on (x ∷ y ∷ rs) (suc n) r m len e = last_goes_on (y ∷ rs) n r m (omega (arith, len)) e

pub nothing_there : (rs : List Record) → None ≡ slice_get rs (length rs - 1) → length rs ≡ 0
nothing_there [] e = refl
nothing_there (r ∷ rs) e = absurd (none-some _ (e ∙ slice_get-get_or (r ∷ rs) (length (r ∷ rs) - 1) r (omega arith)))

pub none_goes_on : (rs : List Record) (m : Line) → length rs ≡ 0 → false ≡ goes_on (map as_run rs) m
none_goes_on [] m e = refl
none_goes_on (r ∷ rs) m e = absurd (omega (arith, e))

pub last_counted : (rs : List Record) (n : ℕ) (r : Record) → length rs ≡ suc n → r ≡ get_or rs n r → slice_set rs n (record r { count = suc r.count }) ≡ counted_on rs
last_counted [] n r len is = absurd (omega (arith, len))
last_counted (x ∷ []) zero r len is = ap (λ (y : Record). record y { count = suc y.count } ∷ []) is
last_counted (x ∷ []) (suc n) r len is = absurd (omega (arith, len))
last_counted (x ∷ y ∷ rs) zero r len is = absurd (omega (arith, len))
last_counted (x ∷ y ∷ rs) (suc n) r len is = ap (λ (rest : List Record). x ∷ rest) (last_counted (y ∷ rs) n r (omega (arith, len)) is)

pub none_counted : (rs : List Record) → length rs ≡ 0 → rs ≡ counted_on rs
none_counted [] e = refl
none_counted (r ∷ rs) e = absurd (omega (arith, e))

length_repeated : (n : ℕ) (l : Line) (ls : List Line) → n ≤ length (repeated n l ++ ls)
length_repeated zero l ls = omega arith
length_repeated (suc n) l ls = let rest : n ≤ length (repeated n l ++ ls) = length_repeated n l ls in omega (arith, rest)

length_behind : (xs ys : List Line) → length ys ≤ length (xs ++ ys)
length_behind [] ys = omega arith
length_behind (x ∷ xs) ys = let rest : length ys ≤ length (xs ++ ys) = length_behind xs ys in omega (arith, rest)

-- a record stands for no more items than there are
pub count_within : (rs : List Record) (n : ℕ) (r : Record) → n < length rs → r ≡ get_or rs n r → r.count ≤ length (expanded rs)
count_within [] n r within is = absurd (omega (arith, within))
count_within (x ∷ rs) zero r within is = subst (λ (y : Record). y.count ≤ length (expanded (x ∷ rs))) (sym is) (length_repeated x.count x.line (expanded rs))
count_within (x ∷ rs) (suc n) r within is =
    let rest : r.count ≤ length (expanded rs) = count_within rs n r (omega (arith, within)) is in
    let more : length (expanded rs) ≤ length (expanded (x ∷ rs)) = length_behind (repeated x.count x.line) (expanded rs) in
    omega (arith, rest, more)
