use Rattle.std.specs.Prelude.{slice_index, ◌==◌}
use Rattle.std.proofs.Common.{◌≡◌, ◌<◌, false, [], ◌∷◌, length, refl, ap, sym, ◌∙◌, arith}
use Rattle.value_model.specs.Val.{Entries, fields_of}
use Rattle.value_model.specs.Size.{is_special, names_of}
use Rattle.ejson_value.specs.View.{entries}
use Rattle.ejson_value.proofs.Special.{begins_plain}
use Rattle.ejson_value.proofs.measure.has_special_names.Goals as goal

-- no special form has more than two names
long : (es : Entries) → 2 < length es → false ≡ is_special (names_of (fields_of es))
long [] more = absurd (omega (arith, more))
long (e ∷ []) more = absurd (omega (arith, more))
long (e ∷ f ∷ []) more = absurd (omega (arith, more))
long (e ∷ f ∷ g ∷ es) more = refl

pub returns-then-len-gt2 : goal.returns-then-len-gt2
returns-then-len-gt2 c = long c.args.doc.now (omega (arith, c.len.ensures, c.if-len-gt2.true))

pub returns-then-not-begins_with_dollar : goal.returns-then-not-begins_with_dollar
returns-then-not-begins_with_dollar c =
    let name = c.in-Some.first.now in
    let all = sym c.iter-fields.ensures.all ∙ ap entries c.in-Some.ensures.steps in
    let plain = ap (λ n. slice_index n 0 == 36) (sym c.as_str.ensures) ∙ sym c.begins_with_dollar.ensures ∙ c.if-not-begins_with_dollar.true in
    sym (ap (λ es. is_special (names_of (fields_of es))) all ∙ begins_plain name (names_of (fields_of (entries c.next.new.self))) plain)
