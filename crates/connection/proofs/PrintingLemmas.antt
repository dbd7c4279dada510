-- What is printed item by item is what is printed of the whole journal.
use Rattle.std.specs.Prelude.{◌≡◌, ℕ, zero, suc, ◌+◌, ◌-◌, ◌≤◌, ◌<◌, List, [], ◌∷◌, ◌++◌, length, map, take, drop, replicate, slice_get, Option, None, Some, Result, OnOk, if◌then◌else◌}
use Rattle.std.proofs.Common.{true, false, refl, ap, ap₂, sym, subst, ◌∙◌, arith, append-nil}
use Rattle.std.proofs.lemmas.List.{append_assoc, map-append}
use Rattle.session_core.specs.history_model.Lines.{line_of}
use Rattle.session_state.specs.declared.journal.Line.{Line}
use Rattle.session_state.specs.Journal.{is_run, Run, put_before, runs}
use Rattle.session_state.proofs.RunningLemmas.{same_line}
use Rattle.session_core.specs.session_laws.Session.{ASession}
use Rattle.session_core.specs.Lines.{lines_of}
use Rattle.connection_laws.specs.Printing.{kept_value}
use Rattle.connection.specs.declared.lines.Place.{Place}
use Rattle.connection.specs.Printed.{out_text, texts_in, printed, left_from, Prints, record_lines, record_at, all_printed}

-- ---- one item

drop_one : {X : Type 0} (n : ℕ) (xs : List X) → drop (suc n) xs ≡ drop 1 (drop n xs)
drop_one zero xs = refl
drop_one (suc n) [] = refl
drop_one (suc n) (x ∷ xs) = drop_one n xs

drop_there : {X : Type 0} (n : ℕ) (xs : List X) (x : X) → slice_get xs n ≡ Some x → drop n xs ≡ x ∷ drop (suc n) xs
drop_there zero [] x e = cc e
drop_there zero (y ∷ xs) x e = let same : y ≡ x = cc e in ap (λ z. z ∷ xs) same
drop_there (suc n) [] x e = cc e
drop_there (suc n) (y ∷ xs) x e = drop_there n xs x e

drop_past : {X : Type 0} (n : ℕ) (xs : List X) → slice_get xs n ≡ None → drop n xs ≡ []
drop_past zero [] e = refl
drop_past zero (y ∷ xs) e = cc e
drop_past (suc n) [] e = refl
drop_past (suc n) (y ∷ xs) e = drop_past n xs e

none_printed : (ls : List Line) (texts : List (List ℕ)) → printed ls [] texts ≡ []
none_printed [] texts = refl
none_printed (l ∷ ls) texts = refl

-- an item of so many texts
pub item_printed : (s : ASession) (sent : List (List ℕ)) (l : Line) (old new : Place) (n : ℕ) (before after : List (List ℕ)) →
    slice_get s.carried.counts old.items ≡ Some n → new.items ≡ old.items + 1 →
    drop new.texts (texts_in sent s) ≡ drop n (drop old.texts (texts_in sent s)) →
    after ≡ (before ++ line_of (kept_value l.item l.id) ∷ []) ++ map out_text (take n (drop old.texts (texts_in sent s))) → Prints s sent (l ∷ []) old new before after
item_printed s sent l old new n before after there items texts is rest =
    let line = line_of (kept_value l.item l.id) in
    let all = texts_in sent s in
    let some = map out_text (take n (drop old.texts all)) in
    let more = printed rest (drop (suc old.items) s.carried.counts) (drop n (drop old.texts all)) in
    ap (λ (counts : List ℕ). before ++ printed (l ∷ rest) counts (drop old.texts all)) (drop_there old.items s.carried.counts n there)
    ∙ (sym (append_assoc before (line ∷ []) (some ++ more))
    ∙ (sym (append_assoc (before ++ line ∷ []) some more)
    ∙ ap₂ (λ (xs ys : List (List ℕ)). xs ++ ys) (sym is)
    (ap₂ (λ (m : ℕ) (ts : List (List ℕ)). printed rest (drop m s.carried.counts) ts) (let one : suc old.items ≡ old.items + 1 = omega arith in one ∙ sym items) (sym texts))))

-- one that has no number of texts
pub item_past : (s : ASession) (sent : List (List ℕ)) (l : Line) (p : Place) (lines : List (List ℕ)) → slice_get s.carried.counts p.items ≡ None → Prints s sent (l ∷ []) p p lines lines
item_past s sent l p lines past rest =
    let none = drop_past p.items s.carried.counts past in
    let texts = drop p.texts (texts_in sent s) in
    ap (λ (counts : List ℕ). lines ++ printed (l ∷ rest) counts texts) none
    ∙ sym (ap (λ (counts : List ℕ). lines ++ printed rest counts texts) none ∙ ap (λ (xs : List (List ℕ)). lines ++ xs) (none_printed rest texts))

-- ---- texts

take_after : {X : Type 0} (n : ℕ) (xs : List X) → take (suc n) xs ≡ take n xs ++ take 1 (drop n xs)
take_after zero xs = refl
take_after (suc n) [] = refl
take_after (suc n) (x ∷ xs) = ap (λ ys. x ∷ ys) (take_after n xs)

take_next : {X : Type 0} (n : ℕ) (xs : List X) → take (n + 1) xs ≡ take n xs ++ take 1 (drop n xs)
take_next n xs = let one : n + 1 ≡ suc n = omega arith in ap (λ m. take m xs) one ∙ take_after n xs

pub drop_next : {X : Type 0} (n : ℕ) (xs : List X) → drop (n + 1) xs ≡ drop 1 (drop n xs)
drop_next n xs = let one : n + 1 ≡ suc n = omega arith in ap (λ m. drop m xs) one ∙ drop_one n xs

-- one text more of those that are left
pub texts_on : (n : ℕ) (rest : List (List ℕ)) (first lines later now : List (List ℕ)) → now ≡ drop n rest → lines ≡ first ++ map out_text (take n rest) →
    later ≡ lines ++ map out_text (take 1 now) → later ≡ first ++ map out_text (take (n + 1) rest)
texts_on n rest first lines later now left so_far one =
    one
    ∙ (ap₂ (λ (a b : List (List ℕ)). a ++ map out_text (take 1 b)) so_far left
    ∙ (append_assoc first (map out_text (take n rest)) (map out_text (take 1 (drop n rest)))
    ∙ ap (λ (xs : List (List ℕ)). first ++ xs) (sym (ap (map out_text) (take_next n rest) ∙ map-append out_text (take n rest) (take 1 (drop n rest))))))

pub left_on : (n : ℕ) (rest now later : List (List ℕ)) → now ≡ drop n rest → later ≡ drop 1 now → later ≡ drop (n + 1) rest
left_on n rest now later left one = one ∙ (ap (drop 1) left ∙ sym (drop_next n rest))

-- the next one of them
pub next_line : (n : ℕ) (xs : List (List ℕ)) (t : List ℕ) (lines later : List (List ℕ)) → slice_get xs n ≡ Some t →
    later ≡ lines ++ out_text t ∷ [] → later ≡ lines ++ map out_text (take 1 (drop n xs))
next_line n xs t lines later there is = is ∙ ap (λ (ts : List (List ℕ)). lines ++ map out_text (take 1 ts)) (sym (drop_there n xs t there))

-- none is left
pub no_line : (n : ℕ) (xs lines : List (List ℕ)) → slice_get xs n ≡ None → lines ≡ lines ++ map out_text (take 1 (drop n xs))
no_line n xs lines none = sym (ap (λ (ts : List (List ℕ)). lines ++ map out_text (take 1 ts)) (drop_past n xs none) ∙ append-nil lines)

pub none_left : (n : ℕ) (xs : List (List ℕ)) → slice_get xs n ≡ None → drop n xs ≡ drop 1 (drop n xs)
none_left n xs none = drop_past n xs none ∙ sym (ap (drop 1) (drop_past n xs none))

-- ---- where a text is

pub get_first : {X : Type 0} (n : ℕ) (xs ys : List X) → n < length xs → slice_get (xs ++ ys) n ≡ slice_get xs n
get_first zero [] ys less = absurd (omega (arith, less))
get_first (suc n) [] ys less = absurd (omega (arith, less))
get_first zero (x ∷ xs) ys less = refl
get_first (suc n) (x ∷ xs) ys less = get_first n xs ys (omega (arith, less))

pub get_second : {X : Type 0} (n : ℕ) (xs ys : List X) → length xs ≤ n → slice_get (xs ++ ys) n ≡ slice_get ys (n - length xs)
get_second n [] ys le = let e : n ≡ n - 0 = omega arith in ap (slice_get ys) e
get_second zero (x ∷ xs) ys le = absurd (omega (arith, le))
get_second (suc n) (x ∷ xs) ys le = let e : n - length xs ≡ suc n - suc (length xs) = omega arith in get_second n xs ys (omega (arith, le)) ∙ ap (slice_get ys) e

-- ---- several

pub none_prints : (s : ASession) (sent : List (List ℕ)) (p : Place) (lines : List (List ℕ)) → Prints s sent [] p p lines lines
none_prints s sent p lines rest = refl

pub prints_on : (s : ASession) (sent : List (List ℕ)) (ls more : List Line) (a b c : Place) (x y z : List (List ℕ)) →
    Prints s sent ls a b x y → Prints s sent more b c y z → Prints s sent (ls ++ more) a c x z
prints_on s sent ls more a b c x y z p q rest = ap (λ (xs : List Line). x ++ left_from s sent a xs) (append_assoc ls more rest) ∙ (p (more ++ rest) ∙ q rest)

-- the record at a place
pub no_record : (s : ASession) (sent : List (List ℕ)) (at : ℕ) (p : Place) (lines : List (List ℕ)) → None ≡ slice_get (runs (lines_of s)) at → Prints s sent (record_at s at) p p lines lines
no_record s sent at p lines e = subst (λ (o : Option Run). Prints s sent (record_lines o) p p lines lines) e (none_prints s sent p lines)

pub one_record : {E : Type 0} (s : ASession) (sent : List (List ℕ)) (at : ℕ) (l : Line) (n : ℕ) (old new : Place) (before after : List (List ℕ)) (result : Result (Unit {0}) E) →
    Some (l, n) ≡ slice_get (runs (lines_of s)) at → OnOk result (Prints s sent (replicate n l) old new before after) → OnOk result (Prints s sent (record_at s at) old new before after)
one_record s sent at l n old new before after result e p = subst (λ (o : Option Run). OnOk result (Prints s sent (record_lines o) old new before after)) e p

replicate_after : (n : ℕ) (l : Line) → replicate (suc n) l ≡ replicate n l ++ l ∷ []
replicate_after zero l = refl
replicate_after (suc n) l = ap (λ (xs : List Line). l ∷ xs) (replicate_after n l)

pub replicate_next : (n : ℕ) (l : Line) → replicate (n + 1) l ≡ replicate n l ++ l ∷ []
replicate_next n l = let one : n + 1 ≡ suc n = omega arith in ap (λ m. replicate m l) one ∙ replicate_after n l

-- ---- the records

abbrev pub lines_in : List Run → List Line
lines_in [] = []
lines_in (r ∷ rs) = replicate r.1 r.0 ++ lines_in rs

put_lines : (l : Line) (rs : List Run) → lines_in (put_before l rs) ≡ l ∷ lines_in rs
put_lines l [] = refl
put_lines l (r ∷ rs) =
    elim (is_run l r.0) as (λ b. is_run l r.0 ≡ b → lines_in (if b then (l, suc r.1) ∷ rs else (l, 1) ∷ r ∷ rs) ≡ l ∷ lines_in (r ∷ rs)) [
      | true ↦ λ e. ap (λ (x : Line). l ∷ (replicate r.1 x ++ lines_in rs)) (same_line l r.0 e)
      | false ↦ λ e. refl
    ] refl

-- the records have all items
pub runs_lines : (ls : List Line) → lines_in (runs ls) ≡ ls
runs_lines [] = refl
runs_lines (l ∷ ls) = put_lines l (runs ls) ∙ ap (λ (xs : List Line). l ∷ xs) (runs_lines ls)

-- the first records
taken_after : (n : ℕ) (rs : List Run) → lines_in (take (suc n) rs) ≡ lines_in (take n rs) ++ record_lines (slice_get rs n)
taken_after zero [] = refl
taken_after zero (r ∷ rs) = append-nil (replicate r.1 r.0)
taken_after (suc n) [] = refl
taken_after (suc n) (r ∷ rs) = ap (λ (xs : List Line). replicate r.1 r.0 ++ xs) (taken_after n rs) ∙ sym (append_assoc (replicate r.1 r.0) (lines_in (take n rs)) (record_lines (slice_get rs n)))

pub taken_next : (n : ℕ) (rs : List Run) → lines_in (take (n + 1) rs) ≡ lines_in (take n rs) ++ record_lines (slice_get rs n)
taken_next n rs = let one : n + 1 ≡ suc n = omega arith in ap (λ m. lines_in (take m rs)) one ∙ taken_after n rs

taken_all : {X : Type 0} (n : ℕ) (xs : List X) → length xs ≤ n → take n xs ≡ xs
taken_all zero [] le = refl
taken_all zero (x ∷ xs) le = absurd (omega (arith, le))
taken_all (suc n) [] le = refl
taken_all (suc n) (x ∷ xs) le = ap (λ ys. x ∷ ys) (taken_all n xs (omega (arith, le)))

-- all of them were printed
pub all_prints : (s : ASession) (sent : List (List ℕ)) (n : ℕ) (new : Place) (before after : List (List ℕ)) → n ≡ length (runs (lines_of s)) →
    Prints s sent (lines_in (take n (runs (lines_of s)))) (record { items = 0; texts = 0 }) new before after → after ≡ before ++ all_printed s sent
all_prints s sent n new before after is p =
    let whole : lines_in (take n (runs (lines_of s))) ≡ lines_of s = ap lines_in (taken_all n (runs (lines_of s)) (omega (arith, is))) ∙ runs_lines (lines_of s) in
    sym (ap (λ (ls : List Line). before ++ printed ls s.carried.counts (texts_in sent s)) (sym (append-nil (lines_of s)))
    ∙ (ap (λ (ls : List Line). before ++ printed (ls ++ []) s.carried.counts (texts_in sent s)) (sym whole)
    ∙ (p [] ∙ append-nil after)))
