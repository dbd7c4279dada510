-- The script of a drive.
use Rattle.std.specs.Prelude.{
  ◌≡◌,
  ℕ,
  suc,
  ◌<◌,
  List,
  [],
  ◌∷◌,
  length,
  take,
  map,
  slice_get,
  ◌==◌,
  Bool,
  true,
  false,
  ◌||◌,
  Option,
  Some,
  None,
  is_some,
  option_map,
  Result,
  Ok,
  Err,
  nat_lt,
  if◌then◌else◌,
}
use Rattle.std.specs.Ordering.{eq_by_cmp}
use Rattle.map_model.specs.Maps.{at, IsSorted}
use Rattle.value_model.specs.Val.{Val}
use Rattle.value_model.specs.Order.{text_cmp}
use Rattle.client_script.specs.declared.fault.ScriptFault.{ScriptFault}
use Rattle.client_script.specs.declared.fault.ScriptFault.TheVariants.{Bad, Memory}
use Rattle.client_script.specs.declared.line.Line.{Line}
use Rattle.drive_script.specs.declared.line.DriveLine.{DriveLine}
use Rattle.drive_script.specs.declared.line.DriveLine.TheVariants as line
use Rattle.drive_script.specs.Lines.{line_in}

-- the script of each client, by name
abbrev pub Clients : Type 0
Clients = List (List ℕ × List Line)

-- the operations on the store that are done first, and then the script of each client
pub record Scripted : Type 0 where
  pub admins : List (List Val)
  pub clients : Clients

-- ---- the script of lines

-- the operations of lines, in order
abbrev pub operations : List DriveLine → List (List Val)
operations [] = []
operations (line.Admin op ∷ ls) = op ∷ operations ls
operations (line.Act client act ∷ ls) = operations ls

-- the lines of the script of the client of this name, in order
abbrev pub acts_of : List ℕ → List DriveLine → List Line
acts_of name [] = []
acts_of name (line.Admin op ∷ ls) = acts_of name ls
acts_of name (line.Act client act ∷ ls) = if eq_by_cmp text_cmp name client then act ∷ acts_of name ls else acts_of name ls

-- none where there is nothing
abbrev pub some_of : {X : Type 0} → List X → Option (List X)
some_of [] = None
some_of (x ∷ xs) = Some (x ∷ xs)

-- it has the operations of the lines, and each client that a line names, with its script, the clients by name
pub record IsScriptOf (lines : List DriveLine) (s : Scripted) : Type 0 where
  pub admins : s.admins ≡ operations lines
  pub clients : (name : List ℕ) → at text_cmp s.clients name ≡ some_of (acts_of name lines)
  pub sorted : IsSorted text_cmp s.clients

-- ---- which line may come behind others

-- how many clients a script may have
abbrev pub max_clients : ℕ
max_clients = 128

-- a client may act that is named, or a new one where there are fewer
abbrev pub may_act : Clients → List ℕ → Bool
may_act cs client = is_some (at text_cmp cs client) || nat_lt (length cs) max_clients

-- behind a script come no operations once a client is named, and no new client where there are 128
abbrev pub may_come : Scripted → DriveLine → Bool
may_come s (line.Admin op) = length s.clients == 0
may_come s (line.Act client act) = may_act s.clients client

-- the line at this place may come behind those before it
pub record IsInPlace (lines : List DriveLine) (place : ℕ) : Type 0 where
  pub before : Scripted
  pub script : IsScriptOf (take place lines) before
  pub comes : option_map (may_come before) (slice_get lines place) ≡ Some true

-- ---- the script of values

-- each value describes the line at its place, which may come there
pub record AreLines (values : List Val) (lines : List DriveLine) : Type 0 where
  pub each : map line_in values ≡ map Some lines
  pub in_place : (place : ℕ) → place < length lines → IsInPlace lines place

pub record IsReadAs (values : List Val) (s : Scripted) : Type 0 where
  pub lines : List DriveLine
  pub are : AreLines values lines
  pub script : IsScriptOf lines s

-- a value that describes no line, or one that may not come there
abbrev pub is_bad : Scripted → Option DriveLine → Bool
is_bad s None = true
is_bad s (Some l) = if may_come s l then false else true

-- the value with this number, counted from 1, is the first one that describes no line which may come there
pub record IsFirstBad (values : List Val) (number : ℕ) : Type 0 where
  pub lines : List DriveLine
  pub counted : number ≡ suc (length lines)
  pub are : AreLines (take (length lines) values) lines
  pub before : Scripted
  pub script : IsScriptOf lines before
  pub bad : option_map (λ v. is_bad before (line_in v)) (slice_get values (length lines)) ≡ Some true

abbrev pub Reads : List Val → Result Scripted ScriptFault → Type 0
Reads values (Ok s) = IsReadAs values s
Reads values (Err (Bad number)) = IsFirstBad values number
Reads values (Err Memory) = Unit {0}
