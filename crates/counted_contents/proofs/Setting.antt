-- The bytes of documents once one of them is set.
use Rattle.std.specs.Prelude.{◌≡◌, ◌+◌, ◌≤◌, [], ◌∷◌, Option, None, refl}
use Rattle.std.proofs.Common.{arith}
use Rattle.std.proofs.lemmas.List.Sums.{sum_by-cons}
use Rattle.map_model.specs.Maps.{at, set, IsSorted}
use Rattle.value_model.specs.Val.{Entries}
use Rattle.ejson_value.specs.declared.key.Key.{Key}
use Rattle.ejson_value.specs.declared.change.Change.{Change}
use Rattle.ejson_value.specs.Key.{key_cmp}
use Rattle.ejson_value.specs.Rows.{Rows}
use Rattle.collection_store.specs.Limits.{bytes_of, size_if}
use Rattle.collection_store.proofs.Sums.{changed_sum}

pub bytes-set : (rows : Rows) (key : Key) (w : Option Entries) → IsSorted key_cmp rows → bytes_of (set key_cmp rows key w) + size_if (at key_cmp rows key) ≡ bytes_of rows + size_if w
bytes-set rows key w s =
    let c : Change = record { key = key; before = at key_cmp rows key; after = w } in
    omega (arith, changed_sum size_if refl rows (c ∷ []) s (refl, tt), sum_by-cons (λ (c : Change). size_if c.before) c [], sum_by-cons (λ (c : Change). size_if c.after) c [])

pub size-le : (rows : Rows) (key : Key) → IsSorted key_cmp rows → size_if (at key_cmp rows key) ≤ bytes_of rows
size-le rows key s = omega (arith, bytes-set rows key None s)
