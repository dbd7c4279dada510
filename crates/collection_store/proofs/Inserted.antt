-- An insert by what the store holds before it.
use Rattle.std.specs.Prelude.{nat_lt, ◌||◌, is_some, is_none, if◌then◌else◌}
use Rattle.std.proofs.Common.{◌≡◌, ℕ, ◌+◌, Bool, true, false, [], length, Option, Some, None, Ok, Err, refl, ap, ap₂, sym, ◌∙◌, arith}
use Rattle.std.proofs.lemmas.Bool.{le-ltb}
use Rattle.std.proofs.lemmas.List.Sums.{sum_by-cons}
use Rattle.map_model.specs.Maps.{at, set, IsSorted}
use Rattle.value_model.specs.Val.{Entries}
use Rattle.value_model.specs.Size.{size}
use Rattle.ejson_value.specs.declared.key.Key.{Key}
use Rattle.ejson_value.specs.declared.change.Change.{Change}
use Rattle.ejson_value.specs.Key.{key_cmp}
use Rattle.ejson_value.specs.Results.{and_then}
use Rattle.ejson_value.specs.Rows.{Rows}
use Rattle.collection_store.specs.declared.operation.Reply.{Reply}
use Rattle.collection_store.specs.Answered.{plan_of, applied_as}
use Rattle.collection_store.specs.declared.fault.OpFault.TheVariants as fault
use Rattle.collection_store.specs.Outcome.{Outcome}
use Rattle.collection_store.specs.Limits.{document, is_too_large, bytes_of, size_if, old_bytes, new_bytes, max_documents, max_bytes, is_full}
use Rattle.collection_store.specs.Applied.{Plan, Applied, after, done, insertion, if_room}
use Rattle.collection_store.specs.Inserting.{inserted, is_full_with, HasRoom, Fits}
use Rattle.collection_store.proofs.Picked.{AreFor-insertion, length-insertion}
use Rattle.collection_store.proofs.Sums.{bytes-after}

-- ---- sums over the one change

the_change : Key → Entries → Change
the_change key doc = record { key = key; before = None; after = Some doc }

one_new : (key : Key) (doc : Entries) → new_bytes (insertion key doc).changes ≡ size (document doc)
unfolding the_change
one_new key doc = omega (arith, sum_by-cons (λ (c : Change). size_if c.after) (the_change key doc) [])

none_old : (key : Key) (doc : Entries) → old_bytes (insertion key doc).changes ≡ 0
unfolding the_change
none_old key doc = omega (arith, sum_by-cons (λ (c : Change). size_if c.before) (the_change key doc) [])

pub bytes-inserted : (rows : Rows) (key : Key) (doc : Entries) → IsSorted key_cmp rows → at key_cmp rows key ≡ None → bytes_of (set key_cmp rows key (Some doc)) ≡ bytes_of rows + size (document doc)
bytes-inserted rows key doc s none =
    let cs = (insertion key doc).changes in omega (arith, bytes-after rows cs s (AreFor-insertion rows key doc none), none_old key doc, one_new key doc)

-- ---- what an insert gives

new_one : (rows : Rows) (key : Key) (doc : Entries) (room : ℕ) (large : Bool) → at key_cmp rows key ≡ None → is_too_large doc ≡ large
    → inserted rows key doc room ≡ and_then (if large then Err fault.TooLarge else Ok (insertion key doc)) (λ plan. if_room rows room plan)
new_one rows key doc room large none is =
    ap₂ (λ b l. and_then (if b then Err fault.Duplicate else (if l then Err fault.TooLarge else Ok (insertion key doc))) (λ plan. if_room rows room plan)) (ap is_some none) is

full_with : (rows : Rows) (key : Key) (doc : Entries) (room : ℕ) → IsSorted key_cmp rows → at key_cmp rows key ≡ None
    → is_full (after rows (insertion key doc).changes) (insertion key doc).changes room ≡ is_full_with rows doc room
full_with rows key doc room s none =
    ap (λ n. nat_lt max_documents n || nat_lt max_bytes (bytes_of (set key_cmp rows key (Some doc))) || nat_lt room (new_bytes (insertion key doc).changes)) (length-insertion rows key doc s none)
    ∙ ap₂ (λ m n. nat_lt max_documents (length rows + 1) || nat_lt max_bytes m || nat_lt room n) (bytes-inserted rows key doc s none) (one_new key doc)

by_room : (rows : Rows) (key : Key) (doc : Entries) (room : ℕ) (full : Bool) → IsSorted key_cmp rows → is_too_large doc ≡ false → at key_cmp rows key ≡ None → is_full_with rows doc room ≡ full
    → inserted rows key doc room ≡ (if full then Err fault.Full else Ok (done rows (insertion key doc)))
by_room rows key doc room full s low none is =
    new_one rows key doc room false none low
    ∙ ap (λ (b : Bool). let o : Outcome Applied = (if b then Err fault.Full else Ok (done rows (insertion key doc))) in o) (full_with rows key doc room s none ∙ is)

pub inserted_full : (rows : Rows) (key : Key) (doc : Entries) (room : ℕ) → IsSorted key_cmp rows → is_too_large doc ≡ false → is_full_with rows doc room ≡ true → at key_cmp rows key ≡ None
    → inserted rows key doc room ≡ Err fault.Full
inserted_full rows key doc room s low full none = by_room rows key doc room true s low none full

not_full_with : (rows : Rows) (doc : Entries) (room : ℕ) → HasRoom rows doc room → is_full_with rows doc room ≡ false
not_full_with rows doc room h =
    ap₂ (λ a b. a || b || nat_lt room (size (document doc))) (le-ltb max_documents (length rows + 1) h.few) (le-ltb max_bytes (bytes_of rows + size (document doc)) h.small)
    ∙ le-ltb room (size (document doc)) h.within

pub inserted_done : (rows : Rows) (key : Key) (doc : Entries) (room : ℕ) → IsSorted key_cmp rows → Fits rows doc room → at key_cmp rows key ≡ None
    → inserted rows key doc room ≡ Ok (done rows (insertion key doc))
inserted_done rows key doc room s fits none = by_room rows key doc room false s fits.low none (not_full_with rows doc room fits.free)

-- ---- a document put where there was none

pub none_there : (found : Option Entries) → is_none found ≡ true → found ≡ None
none_there None e = refl
none_there (Some doc) e = cc

pub put_where_none : (rows new : Rows) (key : Key) (doc copy : Entries) → new ≡ (if is_none (at key_cmp rows key) then set key_cmp rows key (Some copy) else rows) → at key_cmp rows key ≡ None → copy ≡ doc
    → new ≡ set key_cmp rows key (Some doc)
put_where_none rows new key doc copy put none same = put ∙ ap₂ (λ b d. if b then set key_cmp rows key (Some d) else rows) (ap is_none none) same

pub done_as : (rows new : Rows) (key : Key) (doc : Entries) (reply : Reply) → new ≡ set key_cmp rows key (Some doc) → plan_of reply ≡ insertion key doc → done rows (insertion key doc) ≡ applied_as new reply
done_as rows new key doc reply put plan =
    ap₂ (λ (rs : Rows) (p : Plan). let a : Applied = record { rows = rs; changes = p.changes; touched = p.touched; answer = p.answer } in a) (sym put) (sym plan)
