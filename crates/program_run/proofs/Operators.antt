-- A value that is read as a modifier has operators exactly where some name begins with `$`.
use Rattle.std.proofs.Common.{◌≡◌, List, Bool, true, false, not, cond, Ok, Err, is_ok, refl}
use Rattle.value_model.specs.Val.{Val, object, Entries, entries_of}
use Rattle.ejson_value.specs.Results.{made}
use Rattle.selector_match.specs.Reading.{has_operator, has_plain_name}
use Rattle.modifier_apply.specs.declared.fault.ModifierFault.TheVariants as fault
use Rattle.modifier_apply.specs.Change.{Change, replaced_by, changed_by}
use Rattle.modifier_apply.specs.Reading.{Reading, changes_reading, reading}
use Rattle.program_run.specs.Acts.{has_operators, is_operators}

named : (a b : Bool) (es : Entries) (r : Reading (List Change)) → a ≡ true →
    is_ok (cond (not a) (Ok (replaced_by es)) (cond b (Err fault.BadOperand) (made changed_by r))) ≡ is_operators (cond (not a) (Ok (replaced_by es)) (cond b (Err fault.BadOperand) (made changed_by r)))
named false b es r has = absurd (cc has)
named true true es r has = refl
named true false es (Ok cs) has = refl
named true false es (Err e) has = refl

unnamed : (a b : Bool) (es : Entries) (r : Reading (List Change)) → a ≡ false →
    false ≡ is_operators (cond (not a) (Ok (replaced_by es)) (cond b (Err fault.BadOperand) (made changed_by r)))
unnamed false b es r lacks = refl
unnamed true b es r lacks = absurd (cc lacks)

pub read_with : (v : Val) → has_operators v ≡ true → is_ok (reading v) ≡ is_operators (reading v)
read_with (object fs) has = named (has_operator fs) (has_plain_name fs) (entries_of fs) (changes_reading fs) has
read_with v has = absurd (cc has)

pub read_without : (v : Val) → has_operators v ≡ false → false ≡ is_operators (reading v)
read_without (object fs) lacks = unnamed (has_operator fs) (has_plain_name fs) (entries_of fs) (changes_reading fs) lacks
read_without v lacks = refl
