-- The cursors that are read of one publication publish under different names.
use Rattle.std.specs.Prelude.{◌≡◌, ℕ, Bool, true, false, not, List, [], ◌∷◌, ◌++◌, length, codes, Option, None, Some, Ok, Err, unwrap_or, ◌||◌, refl}
use Rattle.std.specs.Prelude.{if◌then◌else◌}
use Rattle.std.proofs.Common.{ap, sym, ◌∙◌, subst}
use Rattle.std.specs.List.{list_any}
use Rattle.std.specs.Str.{bytes_eq}
use Rattle.std.specs.Bool.{Decides}
use Rattle.std.proofs.lemmas.Slice.Eq.{bytes_eq-Decides}
use Rattle.std.proofs.lemmas.Bool.Decides.{same_from_decides}
use Rattle.value_model.specs.Val.{Val, text, object, Vals, no_vals, val, Fields}
use Rattle.value_model.specs.Size.{is_name}
use Rattle.value_model.specs.Branches.{field_of}
use Rattle.ejson_value.specs.Results.{made, and_then}
use Rattle.ejson_value.specs.ResultLaws.{made-ok, and_then-ok}
use Rattle.app_model.specs.declared.publication.Projection.{Projection}
use Rattle.ejson_value.specs.declared.sort.SortKey.{SortKey}
use Rattle.program_reading.specs.declared.fault.Flaw.{Flaw}
use Rattle.program_reading.specs.declared.fault.Flaw.TheVariants as flaw
use Rattle.app_model.specs.declared.publication.CursorRule.{CursorRule}
use Rattle.program_reading.specs.Faults.{Place, below, element, Reading, bad}
use Rattle.app_model.specs.Rules.{Rules, publishes, HaveDistinctNames}
use Rattle.program_reading.specs.Names.{has_name, is_valid_name, name_reading, if_known, known_reading}
use Rattle.app_model.specs.Reading.{is_cursor, published_as, is_published, alias_reading, selector_of, names_reading, shown_reading, parts_reading}
use Rattle.app_model.specs.Reading.{rule_reading, rules_behind}

flipped : (a b : List ℕ) → Decides (bytes_eq a b) (a ≡ b) → Decides (bytes_eq a b) (b ≡ a)
flipped a b d = (λ e. sym (d.0 e), λ p. d.1 (sym p))

is_name-sym : (a b : List ℕ) → is_name a b ≡ is_name b a
is_name-sym a b = same_from_decides _ _ (flipped a b (bytes_eq-Decides a b)) (bytes_eq-Decides b a)

neither : (a b : Bool) → (a || b) ≡ false → (a ≡ false) × (b ≡ false)
neither true b e = cc
neither false b e = (refl, e)

both_false : (a b : Bool) → a ≡ false → b ≡ false → (a || b) ≡ false
both_false a b e f = ap (λ x. x || b) e ∙ f

publishes-append : (rules : Rules) (rule : CursorRule) (name : List ℕ) → publishes rules name ≡ false → is_name rule.name name ≡ false →
    publishes (rules ++ rule ∷ []) name ≡ false
publishes-append [] rule name before here = both_false (is_name rule.name name) false here refl
publishes-append (r ∷ rules) rule name before here =
    let parts = neither (is_name r.name name) (publishes rules name) before in
    both_false (is_name r.name name) (publishes (rules ++ rule ∷ []) name) parts.0 (publishes-append rules rule name parts.1 here)

pub distinct-append : (rules : Rules) (rule : CursorRule) → HaveDistinctNames rules → publishes rules rule.name ≡ false → HaveDistinctNames (rules ++ rule ∷ [])
distinct-append [] rule all new = (refl, tt)
distinct-append (r ∷ rules) rule all new =
    let parts = neither (is_name r.name rule.name) (publishes rules rule.name) new in
    (publishes-append rules rule r.name all.0 (is_name-sym rule.name r.name ∙ parts.0), distinct-append rules rule all.1 parts.1)

unless_bad : {A : Type 0} (wrong : Bool) (f : Flaw) (place : Place) (r : Reading A) (a : A) → (if wrong then bad f place else r) ≡ Ok a →
    (wrong ≡ false) × (r ≡ Ok a)
unless_bad true f place r a e = cc
unless_bad false f place r a e = (refl, e)

if_good : (good : Bool) (f : Flaw) (place : Place) (name n : List ℕ) → (if good then Ok name else bad f place) ≡ Ok n → name ≡ n
if_good true f place name n e = cc
if_good false f place name n e = cc

-- a name that was read is the text itself
name_read : (place : Place) (v : Val) (n : List ℕ) → name_reading place v ≡ Ok n → v ≡ text n
name_read place (text s) n e = ap text (if_good (is_valid_name s) flaw.BadName place s n e)
name_read place v n e = cc

known_read : (collections : List (List ℕ)) (place : Place) (c : Option Val) (n : List ℕ) → known_reading collections place c ≡ Ok n → c ≡ Some (text n)
known_read collections place None n e = cc
known_read collections place (Some v) n e =
    let two = and_then-ok (name_reading place v) (λ name. if_known (has_name collections name) place name) n e in
    ap (λ w. Some w) (name_read place v two.0 two.1 ∙ ap text (if_good (has_name collections two.0) flaw.UnknownCollection place two.0 n two.2))

ok_is : {A : Type 0} (a b : A) → let r : Reading A = Ok a in r ≡ Ok b → a ≡ b
ok_is a b e = cc

published : (collections : List (List ℕ)) (p q : Place) (own c : Option Val) (alias : Option (List ℕ)) (name : List ℕ) →
    alias_reading p own ≡ Ok alias → known_reading collections q c ≡ Ok name →
    published_as own c ≡ Some (text (unwrap_or alias name))
published collections p q None c alias name e k =
    let none = ok_is None alias e in
    known_read collections q c name k ∙ ap (λ (o : Option (List ℕ)). Some (text (unwrap_or o name))) none
published collections p q (Some v) c alias name e k =
    let two = made-ok (λ (n : List ℕ). Some n) (name_reading p v) alias e in
    ap (λ w. Some w) (name_read p v two.0 two.1) ∙ ap (λ (o : Option (List ℕ)). Some (text (unwrap_or o name))) two.2

named : (collections : List (List ℕ)) (place : Place) (fs : Fields) (names : List ℕ × List ℕ) → names_reading collections place fs ≡ Ok names →
    published_as (field_of fs (codes "as")) (field_of fs (codes "collection")) ≡ Some (text names.1)
named collections place fs names e =
    let own = field_of fs (codes "as") in
    let c = field_of fs (codes "collection") in
    let both = λ (alias : Option (List ℕ)) (name : List ℕ). let n : List ℕ × List ℕ = (name, unwrap_or alias name) in n in
    let by_alias = and_then-ok (alias_reading (below place (codes "as")) own)
    (λ alias. and_then (known_reading collections (below place (codes "collection")) c) (λ name. Ok (both alias name))) names e in
    let by_name = and_then-ok (known_reading collections (below place (codes "collection")) c) (λ name. Ok (both by_alias.0 name)) names by_alias.2 in
    published collections (below place (codes "as")) (below place (codes "collection")) own c by_alias.0 by_name.0 by_alias.1 by_name.1
    ∙ ap (λ (n : List ℕ × List ℕ). Some (text n.1)) (ok_is (both by_alias.0 by_name.0) names by_name.2)

-- a cursor that was read publishes under the name that it was tested for
parts_published : (collections : List (List ℕ)) (place : Place) (fs : Fields) (rule : CursorRule) → parts_reading collections place fs ≡ Ok rule →
    published_as (field_of fs (codes "as")) (field_of fs (codes "collection")) ≡ Some (text rule.name)
parts_published collections place fs rule e =
    let rule_of = λ (names : List ℕ × List ℕ) (shown : Projection × (Option ℕ × List SortKey)). let r : CursorRule = record {
      collection = names.0;
      name = names.1;
      selector = selector_of (field_of fs (codes "selector"));
      fields = shown.0;
      sort = shown.1.1;
      limit = shown.1.0;
    } in r in
    let by_names = and_then-ok (names_reading collections place fs) (λ names. and_then (shown_reading place fs) (λ shown. Ok (rule_of names shown))) rule e in
    let by_shown = and_then-ok (shown_reading place fs) (λ shown. Ok (rule_of by_names.0 shown)) rule by_names.2 in
    named collections place fs by_names.0 by_names.1 ∙ ap (λ (r : CursorRule). Some (text r.name)) (ok_is (rule_of by_names.0 by_shown.0) rule by_shown.2)

rule_fresh : (collections : List (List ℕ)) (place : Place) (rules : Rules) (v : Val) (rule : CursorRule) →
    rule_reading collections place rules v ≡ Ok rule → publishes rules rule.name ≡ false
rule_fresh collections place rules (object fs) rule e =
    let name = published_as (field_of fs (codes "as")) (field_of fs (codes "collection")) in
    let shaped = unless_bad (not (is_cursor fs)) flaw.BadShape place
    (if is_published rules name then bad flaw.DoubleName place else parts_reading collections place fs) rule e in
    let new = unless_bad (is_published rules name) flaw.DoubleName place (parts_reading collections place fs) rule shaped.1 in
    ap (λ n. is_published rules n) (sym (parts_published collections place fs rule new.1)) ∙ new.0
rule_fresh collections place rules v rule e = cc

pub rules_distinct : (collections : List (List ℕ)) (place : Place) (rules : Rules) (vs : Vals) (all : Rules) →
    rules_behind collections place rules vs ≡ Ok all → HaveDistinctNames rules → HaveDistinctNames all
rules_distinct collections place rules no_vals all e d = subst HaveDistinctNames (ok_is rules all e) d
rules_distinct collections place rules (val v vs) all e d =
    let read = and_then-ok (rule_reading collections (element place (length rules)) rules v)
    (λ rule. rules_behind collections place (rules ++ rule ∷ []) vs) all e in
    rules_distinct collections place (rules ++ read.0 ∷ []) vs all read.2
    (distinct-append rules read.0 d (rule_fresh collections (element place (length rules)) rules v read.0 read.1))
