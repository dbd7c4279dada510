-- Reading an element or a member more, in front of the answer to the rest.
use Rattle.std.specs.Prelude.{◌≡◌, ℕ, List, [], ◌∷◌, ◌++◌, Result, Ok, Err, refl}
use Rattle.std.proofs.Common.{sym, ap}
use Rattle.std.proofs.lemmas.List.{append_assoc}
use Rattle.value_model.specs.Val.{Val, Entries}
use Rattle.ejson_value.specs.Results.{made}
use Rattle.ejson_codec.specs.Reading.{with_item, with_field}
use Rattle.ejson_codec.specs.declared.fault.EjsonFault.{EjsonFault}

abbrev pub with_items : List Val → Result (List Val) EjsonFault → Result (List Val) EjsonFault
with_items front rest = made (λ vs. front ++ vs) rest

abbrev pub with_fields : Entries → Result Entries EjsonFault → Result Entries EjsonFault
with_fields front rest = made (λ es. front ++ es) rest

pub with_items-with_item : (front : List Val) (v : Val) (rest : Result (List Val) EjsonFault) → with_items front (with_item (Ok v) rest) ≡ with_items (front ++ v ∷ []) rest
with_items-with_item front v (Ok vs) = ap Ok (sym (append_assoc front (v ∷ []) vs))
with_items-with_item front v (Err e) = refl

pub with_fields-with_field : (front : Entries) (key : List ℕ) (v : Val) (rest : Result Entries EjsonFault) → with_fields front (with_field key (Ok v) rest) ≡ with_fields (front ++ (key, v) ∷ []) rest
with_fields-with_field front key v (Ok es) = ap Ok (sym (append_assoc front ((key, v) ∷ []) es))
with_fields-with_field front key v (Err e) = refl

pub with_items-nil : (rest : Result (List Val) EjsonFault) → with_items [] rest ≡ rest
with_items-nil (Ok vs) = refl
with_items-nil (Err e) = refl

pub with_fields-nil : (rest : Result Entries EjsonFault) → with_fields [] rest ≡ rest
with_fields-nil (Ok es) = refl
with_fields-nil (Err e) = refl
