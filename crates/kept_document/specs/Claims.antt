-- What contracts see of the claims on a field.
use Rattle.std.specs.Prelude.{◌≡◌, ℕ, List, [], ◌∷◌, Option, Some, None, map}
use Rattle.std.specs.Coded.{Coded, coded×, coded_list, coded_ℕ}
use Rattle.value_model.specs.Val.{Val}
use Rattle.value_model.specs.Coding.{val_code}
use Rattle.ejson_value.specs.View.{view}
use Rattle.kept_document.specs.declared.claims.Claim.{Claim}

-- a field's name, and the claims on a field
abbrev pub Name : Type 0
Name = List ℕ

abbrev pub Pairs : Type 0
Pairs = List (ℕ × Val)

-- the claims on a field, as pairs of a subscription and its value
abbrev pub pairs : List Claim → List (ℕ × Val)
pairs claims = map (λ c. (c.sub, view c.value)) claims

-- a claim that may be there, and those behind it
abbrev pub in_order : Option Claim → List Claim → List (ℕ × Val)
in_order None others = pairs others
in_order (Some claim) others = (claim.sub, view claim.value) ∷ pairs others

-- none is behind no claim
abbrev pub HasFirst : Option Claim → List Claim → Type 0
HasFirst None others = others ≡ []
HasFirst (Some claim) others = Unit {0}

abbrev pub claims_code : Coded (List (ℕ × Val))
claims_code = coded_list (coded× coded_ℕ val_code)
