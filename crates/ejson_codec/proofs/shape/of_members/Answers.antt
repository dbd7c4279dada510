use Rattle.std.proofs.Common.{◌≡◌, List, [], ◌∷◌, sym, ap, ap₂, ◌∙◌, String, Global}
use Rattle.std.specs.BTreeMap.{keys}
use Rattle.ejson_codec.specs.Shape.{shape_of_one, shape_of_two}
use Rattle.ejson_codec.proofs.Members.{shape_of-keys}
use Rattle.ejson_codec.proofs.shape.of_members.Goals as goal

abbrev Keys : Type 0
Keys = List (String Global)

pub returns-in_default-next : goal.returns-in_default-next
returns-in_default-next c =
    let one : c.in-Some.first.now ∷ [] ≡ keys c.args.members.now = ap (λ (ks : Keys). c.in-Some.first.now ∷ ks) (sym c.in_default-next.ensures.steps.0) ∙ sym c.in-Some.ensures.steps ∙ c.keys-keys.ensures.rest in
    c.of_one.ensures ∙ ap shape_of_one c.as_str.ensures.value ∙ shape_of-keys c.args.members.now _ one

pub returns-in_default-next-2 : goal.returns-in_default-next-2
returns-in_default-next-2 c =
    let two : c.in-Some.first.now ∷ c.in-Some-next.second.now ∷ c.in_default-next-2.field-0.now ∷ c.next-3.new.self ≡ keys c.args.members.now =
    ap (λ (ks : Keys). c.in-Some.first.now ∷ ks) (ap (λ (ks : Keys). c.in-Some-next.second.now ∷ ks) (sym c.in_default-next-2.ensures.steps) ∙ sym c.in-Some-next.ensures.steps) ∙ sym c.in-Some.ensures.steps ∙ c.keys-keys.ensures.rest in
    shape_of-keys c.args.members.now _ two

pub returns : goal.returns
returns c =
    let two : c.in-Some.first.now ∷ c.in-Some-next.second.now ∷ [] ≡ keys c.args.members.now =
    ap (λ (ks : Keys). c.in-Some.first.now ∷ ks) (ap (λ (ks : Keys). c.in-Some-next.second.now ∷ ks) (sym c.in-None.ensures.steps.0) ∙ sym c.in-Some-next.ensures.steps) ∙ sym c.in-Some.ensures.steps ∙ c.keys-keys.ensures.rest in
    c.of_two.ensures ∙ ap₂ shape_of_two c.as_str-2.ensures.value c.as_str-3.ensures.value ∙ shape_of-keys c.args.members.now _ two
