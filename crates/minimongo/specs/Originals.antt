-- Saved originals: of each document that an open simulation touched, what the server has there, None for no document, and the
-- numbers of the simulations that hold it, rising.
use Rattle.std.specs.Prelude.{◌≡◌, ◌≢◌, ℕ, Bool, List, [], ◌∷◌, map, Option, Some, None, IfSome, refl, if◌then◌else◌}
use Rattle.std.specs.List.{list_all}
use Rattle.std.specs.Coded.{Coded, code_by, coded×, coded_list, coded_ℕ, coded_option}
use Rattle.std.specs.Ordering.{eq_by_cmp}
use Rattle.map_model.specs.Maps.{at, IsSorted, filter_map_entries}
use Rattle.map_model.specs.Differences.{Step, taken}
use Rattle.value_model.specs.Val.{Val, Entries}
use Rattle.value_model.specs.Order.{text_cmp}
use Rattle.value_model.specs.Coding.{entries_code}
use Rattle.view_model.specs.Pending.{is_among, with_number, without_numbers, unless_none}
use Rattle.ejson_value.specs.declared.key.Key.{Key}
use Rattle.ejson_value.specs.Key.{key_cmp, key_code}
use Rattle.minimongo.specs.declared.save.Save.{Save}
use Rattle.minimongo.specs.declared.serve_fault.Served.{Served}
use Rattle.minimongo.specs.declared.serve_fault.Served.TheVariants.{Saved, NotSaved}

pub record Original : Type 0 where
  pub doc : Option Entries
  pub holders : List ℕ

abbrev pub original_code : Coded Original
original_code = code_by (Option Entries × List ℕ) (coded× (coded_option entries_code) (coded_list coded_ℕ)) (λ o. (o.doc, o.holders))
    (λ p. record { doc = p.0; holders = p.1 }) (λ _. refl)

-- by key
abbrev pub Originals : Type 0
Originals = List (Key × Original)

abbrev pub originals_code : Coded Originals
originals_code = coded_list (coded× key_code original_code)

abbrev pub with_holders : List ℕ → Original → Original
with_holders hs original = record { doc = original.doc; holders = hs }

abbrev pub holders_in : Option Original → List ℕ
holders_in None = []
holders_in (Some original) = original.holders

-- whether the simulation holds the document
abbrev pub is_holder : Originals → ℕ → Key → Bool
is_holder originals n k = is_among (holders_in (at key_cmp originals k)) n

-- somebody holds each original
pub record AreOriginals (originals : Originals) : Type 0 where
  pub by_key : IsSorted key_cmp originals
  pub held : (k : Key) → IfSome (at key_cmp originals k) (λ (o : Original). o.holders ≢ [])

-- ---- saving

abbrev pub saves_of : List Save → List (Key × Option Entries)
saves_of saves = map (λ (s : Save). (s.key, s.doc)) saves

-- one more simulation holds the document; what was saved first stays
abbrev pub joined : ℕ → Option Entries → Option Original → Original
joined n doc None = record { doc = doc; holders = n ∷ [] }
joined n doc (Some original) = with_holders (with_number original.holders n) original

-- with what the simulation saves of the document, where None is nothing
abbrev pub saved_by : ℕ → Option (Option Entries) → Option Original → Option Original
saved_by n None old = old
saved_by n (Some doc) old = Some (joined n doc old)

-- the simulation holds these documents too, and nothing else changes
abbrev pub IsSaved : ℕ → List (Key × Option Entries) → Originals → Originals → Type 0
IsSaved n saves old new = (k : Key) → at key_cmp new k ≡ saved_by n (at key_cmp saves k) (at key_cmp old k)

-- ---- letting go

abbrev pub held_still : Original → Option (List ℕ) → Option Original
held_still original None = None
held_still original (Some hs) = Some (with_holders hs original)

-- without these simulations; a document that no other one holds is saved no more
abbrev pub left_by : List ℕ → Option Original → Option Original
left_by ns None = None
left_by ns (Some original) = held_still original (unless_none (without_numbers ns original.holders))

-- these simulations hold nothing any more, and nothing else changes
abbrev pub IsForgotten : List ℕ → Originals → Originals → Type 0
IsForgotten ns old new = (k : Key) → at key_cmp new k ≡ left_by ns (at key_cmp old k)

-- the saved copy of a document that only simulations of this kind hold
abbrev pub due_at : (ℕ → Bool) → Option Original → Option (Option Entries)
due_at test None = None
due_at test (Some original) = if list_all test original.holders then Some original.doc else None

-- by key, the documents that these simulations hold and no other one does
abbrev pub due : List ℕ → Originals → List (Key × Option Entries)
due ns originals = filter_map_entries (λ k original. due_at (is_among ns) (Some original)) originals

abbrev pub some_save : Key → Option (Option Entries) → List (Key × Option Entries)
some_save k None = []
some_save k (Some doc) = (k, doc) ∷ []

-- ---- messages of the server

-- what a message makes of a saved copy, if there is one
abbrev pub served : Step (List ℕ) Val → Option Original → Option Original
served step None = None
served step (Some original) = Some (record { doc = taken text_cmp original.doc step; holders = original.holders })

-- the saved copy of the message's document has taken it, if there is one, and nothing else changes
abbrev pub IsServed : Key × Step (List ℕ) Val → Originals → Originals → Type 0
IsServed m old new = (k : Key) → at key_cmp new k ≡ (if eq_by_cmp key_cmp k m.0 then served m.1 (at key_cmp old k) else at key_cmp old k)

-- whether a copy was saved
abbrev pub ServedFrom : Option Original → Served → Type 0
ServedFrom None answer = answer ≡ NotSaved
ServedFrom (Some original) answer = answer ≡ Saved
