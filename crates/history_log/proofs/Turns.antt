-- One turn of a loop over a log.
use Rattle.std.proofs.Common.{◌≡◌, ℕ, zero, suc, ◌+◌, ◌<◌, List, [], ◌∷◌, ◌++◌, length, get_or, set, drop, map, refl, ap, sym, ◌∙◌, arith}
use Rattle.std.proofs.lemmas.List.{append_assoc, at_drop_more, map-append}
use Rattle.map_model.specs.Changes.{changed}
use Rattle.map_model.specs.ChangeLaws.{changed-append}
use Rattle.value_model.specs.Val.{Val}
use Rattle.ejson_value.specs.declared.change.Change.{Change}
use Rattle.ejson_value.specs.Changes.{change_of, changes_of}
use Rattle.ejson_value.specs.Key.{key_cmp}
use Rattle.ejson_value.specs.Rows.{Rows}
use Rattle.history_log.specs.declared.log.Logged.{Logged}
use Rattle.history_log.specs.Log.{changes_in, settled}
use Rattle.history_model.specs.Lines.{line_of}

-- the changes of one entry more are made
pub made_more : (rows : Rows) (l : Logged) (rest : List Logged) →
    changed key_cmp (changed key_cmp rows (changes_of l.changes)) (changes_of (changes_in rest)) ≡ changed key_cmp rows (changes_of (changes_in (l ∷ rest)))
made_more rows l rest =
    sym (ap (changed key_cmp rows) (map-append change_of l.changes (changes_in rest)) ∙ changed-append key_cmp rows (changes_of l.changes) (changes_of (changes_in rest)))

pub made_turn : (rows rows' : Rows) (ls : List Logged) (i : ℕ) (l : Logged) → i < length ls → l ≡ get_or ls i l → rows' ≡ changed key_cmp rows (changes_of l.changes) →
    changed key_cmp rows' (changes_of (changes_in (drop (i + 1) ls))) ≡ changed key_cmp rows (changes_of (changes_in (drop i ls)))
made_turn rows rows' ls i l within is made =
    let rest = drop (i + 1) ls in
    ap (λ rs. changed key_cmp rs (changes_of (changes_in rest))) made
    ∙ (made_more rows l rest
    ∙ (ap (λ (x : Logged). changed key_cmp rows (changes_of (changes_in (x ∷ rest)))) is
    ∙ sym (at_drop_more (λ ms. changed key_cmp rows (changes_of (changes_in ms))) ls i l within)))

-- the changes are set where the last entry stands
pub settled-set : (ls : List Logged) (i : ℕ) (l : Logged) (changes : List Change) → i + 1 ≡ length ls → l ≡ get_or ls i l → set ls i (record l { changes = changes }) ≡ settled ls changes
settled-set [] i l changes e is = absurd (omega (arith, e))
settled-set (a ∷ []) zero l changes e is = ap (λ (x : Logged). record x { changes = changes } ∷ []) is
settled-set (a ∷ []) (suc i) l changes e is = absurd (omega (arith, e))
settled-set (a ∷ b ∷ ls) zero l changes e is = absurd (omega (arith, e))
settled-set (a ∷ b ∷ ls) (suc i) l changes e is = let e' : i + 1 ≡ length (b ∷ ls) = omega (arith, e) in ap (λ ms. a ∷ ms) (settled-set (b ∷ ls) i l changes e' is)

pub settled-none : (ls : List Logged) (changes : List Change) → (0 < length ls → ⊥) → ls ≡ settled ls changes
settled-none [] changes none = refl
settled-none (a ∷ ls) changes none = absurd (none (omega arith))

-- one more line
pub next_line : {A : Type 0} (f : A → Val) (before lines lines' : List (List ℕ)) (done : List A) (x : A) → lines ≡ before ++ map line_of (map f done) → lines' ≡ lines ++ line_of (f x) ∷ [] →
    lines' ≡ before ++ map line_of (map f (done ++ x ∷ []))
next_line f before lines lines' done x so_far made =
    made
    ∙ (ap (λ ls. ls ++ line_of (f x) ∷ []) so_far
    ∙ (append_assoc before (map line_of (map f done)) (line_of (f x) ∷ [])
    ∙ ap (λ ls. before ++ ls) (sym (ap (map line_of) (map-append f done (x ∷ [])) ∙ map-append line_of (map f done) (f x ∷ [])))))
