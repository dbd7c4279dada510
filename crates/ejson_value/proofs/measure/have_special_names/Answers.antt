use Rattle.std.proofs.Common.{◌≡◌, false, List, [], ◌∷◌, length, refl}
use Rattle.value_model.specs.Val.{fields_of}
use Rattle.value_model.specs.Size.{is_special, names_of}
use Rattle.ejson_value.specs.declared.row.Member.{Member}
use Rattle.ejson_value.specs.View.{pairs, entries}
use Rattle.ejson_value.proofs.measure.have_special_names.Goals as goal

-- each special form has one name or two
many : (ms : List Member) → (length ms ≡ 1 → ⊥) → (length ms ≡ 2 → ⊥) → false ≡ is_special (names_of (fields_of (entries (pairs ms))))
many [] not_one not_two = refl
many (m ∷ []) not_one not_two = absurd (not_one refl)
many (m ∷ n ∷ []) not_one not_two = absurd (not_two refl)
many (m ∷ n ∷ o ∷ ms) not_one not_two = refl

pub returns : goal.returns
returns c = many c.args.members.now c.if-len-eq1.false c.if-len-eq2.false
