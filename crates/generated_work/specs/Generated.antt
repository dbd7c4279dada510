-- Generated work: sixteen counters, eight clients that see them all, and as many calls as are wanted, drawn by a linear congruential generator
-- (Numerical Recipes' constants).
use Rattle.std.specs.Prelude.{ℕ, zero, suc, ◌+◌, ◌*◌, ◌/◌, ◌%◌, ◌^◌, List, [], ◌∷◌, ◌++◌, map, flat_map, pos, codes, decimal}
use Rattle.value_model.specs.Val.{Val, int, text, list, object, vals_of, fields_of}
use Rattle.ejson_codec.specs.Lines.{line_text}

-- the application, as it is written
abbrev pub application : List ℕ
application = codes
    "{\"collections\":[\"counters\"],\"methods\":{\"inc\":{\"steps\":[[\"update\",\"counters\",{\"_id\":{\"$param\":0}},{\"$inc\":{\"n\":{\"$param\":1}}}]],\"stub\":true}},\"publications\":{\"all\":[{\"collection\":\"counters\"}]}}"

-- ---- what is drawn

abbrev pub next : ℕ → ℕ
next x = (1664525 * x + 1013904223) % 2 ^ 32

-- the number behind i draws from n
abbrev pub drawn : ℕ → ℕ → ℕ
drawn n zero = n
drawn n (suc i) = next (drawn n i)

-- ---- the lines

abbrev pub row : List Val → Val
row values = list (vals_of values)

abbrev pub word : List ℕ → Val
word letters = text letters

-- the name of a client, and of a counter
abbrev pub client_name : ℕ → Val
client_name i = text (codes "g" ++ decimal i)

abbrev pub counter_name : ℕ → Val
counter_name i = text (codes "c" ++ decimal i)

-- `["admin",["insert","counters",{"_id":"c0","n":0}]]`
abbrev pub counter : ℕ → Val
counter i = object (fields_of ((codes "_id", counter_name i) ∷ (codes "n", int (pos 0)) ∷ []))

abbrev pub insert_line : ℕ → Val
insert_line i = row (word (codes "admin") ∷ row (word (codes "insert") ∷ word (codes "counters") ∷ counter i ∷ []) ∷ [])

-- `["g0","sub","1","all",[]]` and `["g0","wait"]`
abbrev pub sub_line : ℕ → Val
sub_line i = row (client_name i ∷ word (codes "sub") ∷ word (codes "1") ∷ word (codes "all") ∷ row [] ∷ [])

abbrev pub wait_line : ℕ → Val
wait_line i = row (client_name i ∷ word (codes "wait") ∷ [])

-- call i, for which x was drawn: `["g0","call","inc",["c14",7]]`
abbrev pub call_line : ℕ → ℕ → Val
call_line i x = row
    (client_name (i % 8) ∷ word (codes "call") ∷ word (codes "inc") ∷ row (counter_name (x / 2 ^ 16 % 16) ∷ int (pos (x / 2 ^ 24 % 9 + 1)) ∷ []) ∷ [])

-- the lines of each number below n, in order
abbrev pub lines_below : (ℕ → List Val) → ℕ → List Val
lines_below f zero = []
lines_below f (suc n) = lines_below f n ++ f n

-- how many calls can be wanted
abbrev pub max_calls : ℕ
max_calls = 20000

-- the drive of this many calls, drawn from n
abbrev pub generated : ℕ → ℕ → List Val
generated n calls =
    lines_below (λ i. insert_line i ∷ []) 16
    ++ lines_below (λ i. sub_line i ∷ wait_line i ∷ []) 8
    ++ lines_below (λ i. call_line i (drawn n (suc i)) ∷ []) calls

-- ---- the input of a drive

-- the application, and then the drive, line by line
abbrev pub generated_lines : ℕ → ℕ → List (List ℕ)
generated_lines n calls = application ∷ map line_text (generated n calls)

-- a line with a line feed behind it
abbrev pub written_line : List ℕ → List ℕ
written_line l = l ++ 10 ∷ []

abbrev pub generated_input : ℕ → ℕ → List ℕ
generated_input n calls = flat_map written_line (generated_lines n calls)
