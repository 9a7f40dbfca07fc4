-- The clients of a script, and whose a line is.
use Rattle.std.specs.Prelude.{ℕ, zero, suc, ◌≡◌, ◌<◌, List, ◌++◌, codes, Option, None, Some}
use Rattle.std.specs.Fmt.{decimal}

-- client 0 is the writer's, the others are readers
abbrev pub client_count : ℕ
client_count = 32

-- `w`, and `r1` to `r31`
abbrev pub client_name : ℕ → List ℕ
client_name zero = codes "w"
client_name (suc i) = codes "r" ++ decimal (suc i)

-- The line names the client, and this is what stands behind the colon and the space.
pub record Names (line : List ℕ) (client : ℕ) (text : List ℕ) : Type 0 where
  pub known : client < client_count
  pub line_is : line ≡ client_name client ++ (codes ": " ++ text)

-- The line names this client or none, and this is what it asks.
abbrev pub Asks : List ℕ → Option ℕ → List ℕ → Type 0
Asks line (Some client) text = Names line client text
Asks line None text = ((client : ℕ) (rest : List ℕ) → Names line client rest → ⊥) × (text ≡ line)

-- a line that names no client is the writer's
abbrev pub whose : Option ℕ → ℕ
whose None = 0
whose (Some client) = client
