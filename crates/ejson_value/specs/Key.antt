-- Keys of documents, by collection and then by id.
use Rattle.std.specs.Prelude.{◌≡◌, ℕ, List, refl}
use Rattle.std.specs.Coded.{Coded, code_by, coded×, coded_list, coded_ℕ}
use Rattle.std.specs.declared.cmp.Ordering.{Ordering}
use Rattle.std.specs.declared.cmp.Ordering.TheVariants.{Equal}
use Rattle.std.specs.Ordering.{ordering_then}
use Rattle.std.specs.Cmp.{IsTotalOrder, on_total}
use Rattle.std.proofs.lemmas.Cmp.{nat_list_cmp_total, then_total}
use Rattle.std.proofs.lemmas.Map.Lookups.{exact_bytes}
use Rattle.map_model.specs.Maps.{IsKeyOrder}
use Rattle.value_model.specs.Order.{text_cmp}
use Rattle.value_model.specs.OrderLaws.{then_ties}
use Rattle.ejson_value.specs.declared.key.Key.{Key}

-- names and texts go by their bytes, and only equal ones tie
pub name_order : IsKeyOrder text_cmp
name_order = record { total = nat_list_cmp_total; exact = exact_bytes }

-- the key of the document of this collection with this id
abbrev pub key_of : List ℕ → List ℕ → Key
key_of collection id = record { collection = collection; id = id }

abbrev pub key_cmp : Key → Key → Ordering
key_cmp a b = ordering_then (text_cmp a.collection b.collection) (text_cmp a.id b.id)

pub key_total : IsTotalOrder key_cmp
key_total = then_total (on_total (λ (k : Key). k.collection) nat_list_cmp_total) (on_total (λ (k : Key). k.id) nat_list_cmp_total)

pub key_exact : (a b : Key) → key_cmp a b ≡ Equal → a ≡ b
key_exact a b e =
    let both = then_ties (text_cmp a.collection b.collection) (text_cmp a.id b.id) e in
    let same : a.collection ≡ b.collection = exact_bytes a.collection b.collection both.0 in
    let ids : a.id ≡ b.id = exact_bytes a.id b.id both.1 in
    λ i. record { collection = same i; id = ids i }

pub key_order : IsKeyOrder key_cmp
key_order = record { total = key_total; exact = key_exact }

abbrev pub key_code : Coded Key
key_code = code_by (List ℕ × List ℕ) (coded× (coded_list coded_ℕ) (coded_list coded_ℕ)) (λ k. (k.collection, k.id))
    (λ p. record { collection = p.0; id = p.1 }) (λ _. refl)
