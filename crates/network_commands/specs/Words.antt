-- The words that name commands of a network.
use Rattle.std.specs.Prelude.{ℕ, List, [], ◌∷◌, Option, Some, None, codes, option_and_then, option_map, if◌then◌else◌}
use Rattle.value_model.specs.Size.{is_name}
use Rattle.heartbeat.specs.Beats.{IsTime}
use Rattle.command_words.specs.Number.{number_in}
use Rattle.commands.specs.Cause.{time_in}
use Rattle.network_commands.specs.declared.command.NetworkCommand.{NetworkCommand}
use Rattle.network_commands.specs.declared.command.NetworkCommand.TheVariants as command
use Rattle.network_commands.specs.declared.command.RetryCommand.{RetryCommand}
use Rattle.network_commands.specs.declared.command.TimedCommand.{TimedCommand}

-- a TCP port
abbrev pub port_in : List ℕ → Option ℕ
port_in word = number_in 1 65535 word

-- how many connections are to be served
abbrev pub connections_in : List ℕ → Option ℕ
connections_in word = number_in 1 65535 word

abbrev pub serve_of : List ℕ → List ℕ → Option NetworkCommand
serve_of port connections = option_and_then (λ p. option_map (λ n. command.Serve p n) (connections_in connections)) (port_in port)

abbrev pub console_of : List ℕ → Option NetworkCommand
console_of port = option_map command.Console (port_in port)

-- the command that the words name, if they are those of one that needs a network
abbrev pub network_command_in : List (List ℕ) → Option NetworkCommand
network_command_in (word ∷ port ∷ []) = if is_name word (codes "console") then console_of port else None
network_command_in (word ∷ port ∷ connections ∷ []) = if is_name word (codes "serve") then serve_of port connections else None
network_command_in _ = None

-- ---- over further links

-- how many further links a console may be given
abbrev pub tries_in : List ℕ → Option ℕ
tries_in word = number_in 1 16 word

abbrev pub retried : ℕ → ℕ → RetryCommand
retried port tries = record { port = port; tries = tries }

abbrev pub retry_of : List ℕ → List ℕ → Option RetryCommand
retry_of port tries = option_and_then (λ p. option_map (retried p) (tries_in tries)) (port_in port)

-- the command that the words name, if they are those of a console that goes on over further links
abbrev pub retry_command_in : List (List ℕ) → Option RetryCommand
retry_command_in (word ∷ port ∷ tries ∷ []) = if is_name word (codes "console-retry") then retry_of port tries else None
retry_command_in _ = None

-- ---- over links that hearts watch

-- its times are such that a heart takes
abbrev pub HasTimes : TimedCommand → Type 0
HasTimes c = IsTime c.interval × IsTime c.timeout

abbrev pub timed : NetworkCommand → ℕ → ℕ → TimedCommand
timed c interval timeout = record { command = c; interval = interval; timeout = timeout }

-- the command with the times that these words tell
abbrev pub timed_of : Option NetworkCommand → List ℕ → List ℕ → Option TimedCommand
timed_of c interval timeout = option_and_then (λ it. option_and_then (λ i. option_map (λ t. timed it i t) (time_in timeout)) (time_in interval)) c

abbrev pub console_beat_of : List ℕ → List ℕ → List ℕ → List ℕ → Option TimedCommand
console_beat_of word port interval timeout = if is_name word (codes "console-beat") then timed_of (console_of port) interval timeout else None

abbrev pub serve_beat_of : List ℕ → List ℕ → List ℕ → List ℕ → List ℕ → Option TimedCommand
serve_beat_of word port connections interval timeout =
    if is_name word (codes "serve-beat") then timed_of (serve_of port connections) interval timeout else None

-- the command that the words name, if they are those of one whose links hearts watch
abbrev pub timed_command_in : List (List ℕ) → Option TimedCommand
timed_command_in (word ∷ port ∷ interval ∷ timeout ∷ []) = console_beat_of word port interval timeout
timed_command_in (word ∷ port ∷ connections ∷ interval ∷ timeout ∷ []) = serve_beat_of word port connections interval timeout
timed_command_in _ = None
