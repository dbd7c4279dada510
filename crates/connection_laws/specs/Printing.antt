-- What a client has and what its session did, as lines: these are printed from what is kept.
use Rattle.std.specs.Prelude.{ℕ, List, [], ◌∷◌, ◌++◌, map, take, drop, codes, Option, Some, None}
use Rattle.value_model.specs.Val.{Val, text}
use Rattle.world_invariant_laws.specs.history_model.Lines.{worded, number}
use Rattle.world_invariant_laws.specs.session_model.Out.{session_name}
use Rattle.session_laws.specs.session_journal_laws.declared.stored.Stored.{Stored}
use Rattle.session_laws.specs.session_journal_laws.declared.stored.Stored.TheVariants as stored
use Rattle.world_invariant_laws.specs.world_model.Lines.{Line, value_line, out_line}
use Rattle.connection_laws.specs.Connection.{AConnection}

-- ---- what a session did

-- the id, where an item shows one
abbrev pub id_words : Option (List ℕ) → List Val
id_words None = []
id_words (Some id) = text id ∷ []

-- the value that a kept item is printed as, which shows this id
abbrev pub kept_value : Stored → Option (List ℕ) → Val
kept_value stored.Connect id = worded (codes "connect") []
kept_value stored.Fail id = worded (codes "fail") []
kept_value (stored.Ping place) id = worded (codes "ping") []
kept_value stored.Pong id = worded (codes "pong") []
kept_value (stored.Bad place) id = worded (codes "bad") []
kept_value (stored.Open s place) id = worded (codes "open") (number s ∷ id_words id)
kept_value (stored.Same place) id = worded (codes "same") (id_words id)
kept_value (stored.Nosub place fault) id = worded (codes "nosub") (id_words id)
kept_value (stored.Close s place) id = worded (codes "close") (number s ∷ [])
kept_value (stored.Call k place) id = worded (codes "call") (number k ∷ id_words id)
kept_value (stored.Unknown place) id = worded (codes "unknown") (id_words id)
kept_value (stored.Load s at) id = worded (codes "load") (number s ∷ number at ∷ [])
kept_value (stored.Advance s count) id = worded (codes "advance") (number s ∷ number count ∷ [])
kept_value (stored.Refused k at) id = worded (codes "refused") (number k ∷ number at ∷ [])
kept_value (stored.Unblocked k) id = worded (codes "unblocked") (number k ∷ [])
kept_value (stored.Finished k at) id = worded (codes "finished") (number k ∷ number at ∷ [])

-- the items in order, each with its id and as many of the texts as it has
abbrev pub kept_lines : List Stored → List (Option (List ℕ)) → List ℕ → List (List ℕ) → List Line
kept_lines (s ∷ ss) (id ∷ ids) (n ∷ counts) texts = value_line (kept_value s id) ∷ (map out_line (take n texts) ++ kept_lines ss ids counts (drop n texts))
kept_lines ss ids counts texts = []

-- the texts are those that were sent, and then those that are to be
abbrev pub kept_journal : AConnection → List Line
kept_journal x =
    let s = x.session in value_line
    (worded (codes "journal") (text (session_name s.carried.number) ∷ [])) ∷ kept_lines s.carried.journal s.ids s.carried.counts
    (x.sent ++ s.carried.outbox)
