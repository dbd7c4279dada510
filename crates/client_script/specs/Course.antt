-- The course of a script: texts that were heard, lines that were run and texts that were given, one after another.
use Rattle.std.specs.Prelude.{◌≡◌, ℕ, List, [], ◌∷◌, ◌++◌, flat_map, true, MatchBool}
use Rattle.client_script.specs.declared.line.Line.{Line}
use Rattle.client_script.specs.declared.line.Line.TheVariants as line
use Rattle.client_script.specs.declared.line.Ask.{Ask}
use Rattle.client_script.specs.Speaking.{Look, Deed}
use Rattle.client_script.specs.Speaking as deed

pub data Step : Type 0 where
  heard : List ℕ → Step
  ran : Line → Step
  said : List ℕ → Step

-- the texts that were heard, the lines that were run, and the texts that were given
abbrev pub texts_heard : List Step → List (List ℕ)
texts_heard [] = []
texts_heard (heard text ∷ steps) = text ∷ texts_heard steps
texts_heard (_ ∷ steps) = texts_heard steps

abbrev pub lines_run : List Step → List Line
lines_run [] = []
lines_run (ran line ∷ steps) = line ∷ lines_run steps
lines_run (_ ∷ steps) = lines_run steps

abbrev pub texts_said : List Step → List (List ℕ)
texts_said [] = []
texts_said (said text ∷ steps) = text ∷ texts_said steps
texts_said (_ ∷ steps) = texts_said steps

-- lines as they are written, each with a line feed behind it
abbrev pub written_line : List ℕ → List ℕ
written_line line = line ++ 10 ∷ []

abbrev pub written : List (List ℕ) → List ℕ
written lines = flat_map written_line lines

module _ {S : Type 0} (look : S → Look) (does : S → Deed → S → Type 0) where
  -- what is asked for is done where it can be, and otherwise the line is skipped
  abbrev pub Answers : S → Ask → S → Type 0
  Answers s ask s' = MatchBool ((look s).can ask) (does s (deed.asked ask) s') (s' ≡ s)

  -- The line is run in this state and writes these bytes. A wait is passed where nothing waits.
  abbrev pub Runs : S → Line → S → List ℕ → Type 0
  Runs s (line.Ask ask) s' bytes = Answers s ask s' × (bytes ≡ [])
  Runs s line.Wait s' bytes = ((look s).is_settled ≡ true) × (s' ≡ s) × (bytes ≡ [])
  Runs s line.Show s' bytes = (s' ≡ s) × (bytes ≡ written (look s).lines)

  -- lines are run once the client is connected
  abbrev pub Makes : S → Step → S → List ℕ → Type 0
  Makes s (heard text) s' bytes = does s (deed.heard text) s' × (bytes ≡ [])
  Makes s (ran line) s' bytes = ((look s).is_connected ≡ true) × Runs s line s' bytes
  Makes s (said text) s' bytes = does s (deed.said text) s' × (bytes ≡ [])

  -- from one state to another by these steps, which write these bytes
  abbrev pub Goes : S → List Step → S → List ℕ → Type 0
  Goes s [] s' bytes = (s' ≡ s) × (bytes ≡ [])
  Goes s (step ∷ steps) s' bytes = (m : S) × (here : List ℕ) × (rest : List ℕ) × Makes s step m here × Goes m steps s' rest × (bytes ≡ here ++ rest)
