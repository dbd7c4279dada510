-- A script while it is read.
use Rattle.std.specs.Prelude.{◌≡◌, ℕ, List, [], ◌∷◌, ◌++◌, Bool, true, false, Option, Some, cond, unwrap_or}
use Rattle.std.specs.Ordering.{eq_by_cmp}
use Rattle.map_model.specs.Maps.{at, IsSorted}
use Rattle.value_model.specs.Order.{text_cmp}
use Rattle.client_script.specs.declared.line.Line.{Line}
use Rattle.drive_script.specs.declared.line.DriveLine.{DriveLine}
use Rattle.drive_script.specs.declared.line.DriveLine.TheVariants as line
use Rattle.drive_script.specs.Scripts.{Clients, Scripted, may_come, is_bad}

abbrev pub nothing : Scripted
nothing = record { admins = []; clients = [] }

-- the client of this name has one more line, and all others what they had
pub record HasActed (old : Clients) (client : List ℕ) (act : Line) (new : Clients) : Type 0 where
  pub lines : (name : List ℕ) →
      at text_cmp new name ≡ cond (eq_by_cmp text_cmp name client) (Some (unwrap_or (at text_cmp old client) [] ++ act ∷ [])) (at text_cmp old name)
  pub sorted : IsSorted text_cmp new

-- a script with one more line
abbrev pub IsWith : Scripted → DriveLine → Scripted → Type 0
IsWith s (line.Admin op) s' = (s'.admins ≡ s.admins ++ op ∷ []) × (s'.clients ≡ s.clients)
IsWith s (line.Act client act) s' = (s'.admins ≡ s.admins) × HasActed s.clients client act s'.clients

-- a line that may come is put behind the others
abbrev pub Comes : Bool → Scripted → DriveLine → Scripted → Type 0
Comes true s l s' = (may_come s l ≡ true) × IsWith s l s'
Comes false s l s' = (may_come s l ≡ false) × (s' ≡ s)

-- a value that describes one is taken
abbrev pub Takes : Bool → Scripted → Option DriveLine → Scripted → Type 0
Takes true s o s' = (l : DriveLine) × (o ≡ Some l) × Comes true s l s'
Takes false s o s' = is_bad s o ≡ true
