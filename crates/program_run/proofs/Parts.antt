-- The first parts of the paths of a modifier that is read are those that stand in its value.
use Rattle.std.proofs.Common.{◌≡◌, ℕ, ◌+◌, List, [], ◌∷◌, ◌++◌, ◌==◌, take, Bool, true, false, not, cond, Option, None, Some, Result, Ok, Err, refl, ap, sym, ◌∙◌, one-add, append_assoc, append-nil}
use Rattle.std.specs.List.{before_first, prefix_len, slice_split, onto_first, list_any}
use Rattle.value_model.specs.Val.{Val, object, Fields, no_fields, field, Entries, entries_of}
use Rattle.value_model.specs.Branches.{parts_of, is_path, path_of}
use Rattle.ejson_value.specs.Results.{made, with_both}
use Rattle.selector_match.specs.Reading.{begins_with_dollar, has_operator, has_plain_name}
use Rattle.modifier_apply.specs.declared.fault.ModifierFault.TheVariants as fault
use Rattle.modifier_apply.specs.Change.{Edit, Change, replaced_by, changed_by}
use Rattle.modifier_apply.specs.Reading.{Reading, plain_path, edit_reading, change_of, change_reading, paths_reading, operator_named, operator_reading, changes_reading, reading}
use Rattle.program_model.specs.Guarded.{updates, first_parts, fields_in}
use Rattle.program_run.specs.Acts.{is_operators, modification_in}
use Rattle.program_run.specs.Parts.{first_part, paths_behind, operand_behind, operands_behind, parts_in}

-- the type of the operators of modifiers, which their readings take
abbrev Taken : (A B : Type 0) → (A → B) → Type 0
Taken A B f = A

abbrev OperatorName : Type 0
OperatorName = Taken _ _ paths_reading

-- ---- the first part of one path

onto : (x : ℕ) (parts : List (List ℕ)) (part : List ℕ) → take 1 parts ≡ part ∷ [] → take 1 (onto_first x parts) ≡ (x ∷ part) ∷ []
onto x [] part is = absurd (cc is)
onto x (other ∷ parts) part is = let same : other ≡ part = cc is in ap (λ (ys : List ℕ). (x ∷ ys) ∷ []) same

first_is : (p : ℕ → Bool) (xs : List ℕ) → take 1 (slice_split p xs) ≡ before_first p xs ∷ []
first_is p [] = refl
first_is p (x ∷ xs) =
    elim (p x) as (λ (b : Bool). take 1 (cond b ([] ∷ slice_split p xs) (onto_first x (slice_split p xs))) ≡ take (cond (not b) (1 + prefix_len (λ y. not (p y)) xs) 0) (x ∷ xs) ∷ []) [
      | true ↦ refl
      | false ↦ onto x (slice_split p xs) (before_first p xs) (first_is p xs) ∙ ap (λ (n : ℕ). take n (x ∷ xs) ∷ []) (sym (one-add (prefix_len (λ y. not (p y)) xs)))
    ]

chosen : (b : Bool) (parts path : List (List ℕ)) → cond b (Some parts) None ≡ Some path → parts ≡ path
chosen true parts path is = cc is
chosen false parts path is = absurd (cc is)

path-first : (written : List ℕ) (path : List (List ℕ)) → path_of written ≡ Some path → take 1 path ≡ first_part written ∷ []
path-first written path is =
    ap (λ (ps : List (List ℕ)). take 1 ps) (sym (chosen (is_path (parts_of written)) (parts_of written) path is)) ∙ first_is (λ b. b == 46) written

kept : (b : Bool) (path : List (List ℕ)) (r : Reading Edit) (c : Change) → with_both change_of (cond b (Err fault.BadOperand) (Ok path)) r ≡ Ok c → Some path ≡ Some c.path
kept true path r c is = absurd (cc is)
kept false path (Err e) c is = absurd (cc is)
kept false path (Ok edit) c is = let same : change_of path edit ≡ c = cc is in ap (λ (d : Change). Some d.path) same

change-path : (o : Option (List (List ℕ))) (r : Reading Edit) (c : Change) → with_both change_of (plain_path o) r ≡ Ok c → o ≡ Some c.path
change-path None r c is = absurd (cc is)
change-path (Some path) r c is = kept (list_any (λ part. begins_with_dollar part) path) path r c is

-- ---- all of them

both-ok : {A B C E : Type 0} (f : A → B → C) (a : Result A E) (b : Result B E) (c : C) → with_both f a b ≡ Ok c → (x : A) × (y : B) × (a ≡ Ok x) × (b ≡ Ok y) × (f x y ≡ c)
both-ok f (Err e) b c is = absurd (cc is)
both-ok f (Ok x) (Err e) c is = absurd (cc is)
both-ok f (Ok x) (Ok y) c is = (x, y, refl, refl, cc is)

first_parts-append : (cs ds : List Change) → first_parts (cs ++ ds) ≡ first_parts cs ++ first_parts ds
first_parts-append [] ds = refl
first_parts-append (c ∷ cs) ds = ap (λ ps. take 1 c.path ++ ps) (first_parts-append cs ds) ∙ sym (append_assoc (take 1 c.path) (first_parts cs) (first_parts ds))

none_more : (so_far : List (List ℕ)) (cs : List Change) → [] ≡ cs → so_far ≡ so_far ++ first_parts cs
none_more so_far cs is = sym (append-nil so_far) ∙ ap (λ ds. so_far ++ first_parts ds) is

paths-parts : (n : OperatorName) (fs : Fields) (so_far : List (List ℕ)) (cs : List Change) → paths_reading n fs ≡ Ok cs → paths_behind so_far fs ≡ so_far ++ first_parts cs
paths-parts n no_fields so_far cs is = none_more so_far cs (cc is)
paths-parts n (field written v fs) so_far cs is =
    let h = both-ok (λ (c : Change) (ds : List Change). c ∷ ds) (change_reading n written v) (paths_reading n fs) cs is in
    paths-parts n fs (so_far ++ first_part written ∷ []) h.1 h.3
    ∙ (append_assoc so_far (first_part written ∷ []) (first_parts h.1)
    ∙ (ap (λ (ps : List (List ℕ)). so_far ++ (ps ++ first_parts h.1)) (sym (path-first written h.0.path (change-path (path_of written) (edit_reading n v) h.0 h.2)))
    ∙ ap (λ (ds : List Change). so_far ++ first_parts ds) h.4))

operand-parts : (o : Option OperatorName) (v : Val) (so_far : List (List ℕ)) (cs : List Change) → operator_reading o v ≡ Ok cs → operand_behind so_far v ≡ so_far ++ first_parts cs
operand-parts None v so_far cs is = absurd (cc is)
operand-parts (Some n) (object fs) so_far cs is = paths-parts n fs so_far cs is
operand-parts (Some n) v so_far cs is = absurd (cc is)

operands-parts : (fs : Fields) (so_far : List (List ℕ)) (cs : List Change) → changes_reading fs ≡ Ok cs → operands_behind so_far fs ≡ so_far ++ first_parts cs
operands-parts no_fields so_far cs is = none_more so_far cs (cc is)
operands-parts (field n v fs) so_far cs is =
    let h = both-ok (λ (a b : List Change). a ++ b) (operator_reading (operator_named n) v) (changes_reading fs) cs is in
    operands-parts fs (operand_behind so_far v) h.1 h.3
    ∙ (ap (λ (ps : List (List ℕ)). ps ++ first_parts h.1) (operand-parts (operator_named n) v so_far h.0 h.2)
    ∙ (append_assoc so_far (first_parts h.0) (first_parts h.1)
    ∙ (ap (λ (ps : List (List ℕ)). so_far ++ ps) (sym (first_parts-append h.0 h.1))
    ∙ ap (λ (ds : List Change). so_far ++ first_parts ds) h.4)))

-- an object is new fields, or a mixture, or operators
by_names : (a b : Bool) (es : Entries) (r : Reading (List Change)) (id : List ℕ) (parts : List (List ℕ)) → ((cs : List Change) → r ≡ Ok cs → parts ≡ first_parts cs) →
    is_operators (cond (not a) (Ok (replaced_by es)) (cond b (Err fault.BadOperand) (made changed_by r))) ≡ true →
    parts ≡ fields_in (updates id (modification_in (cond (not a) (Ok (replaced_by es)) (cond b (Err fault.BadOperand) (made changed_by r)))))
by_names false b es r id parts f is = absurd (cc is)
by_names true true es r id parts f is = absurd (cc is)
by_names true false es (Err e) id parts f is = absurd (cc is)
by_names true false es (Ok cs) id parts f is = f cs refl

pub parts-read : (id : List ℕ) (v : Val) → is_operators (reading v) ≡ true → parts_in v ≡ fields_in (updates id (modification_in (reading v)))
parts-read id (object fs) is = by_names (has_operator fs) (has_plain_name fs) (entries_of fs) (changes_reading fs) id (operands_behind [] fs) (λ cs r. operands-parts fs [] cs r) is
parts-read id v is = absurd (cc is)
