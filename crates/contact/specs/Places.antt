-- Where a key of a PatchObject stands in the card text: by rules (`KeyStands`), and found (`key_place`). docs/RULES.md, 6.4.
-- Assumes nothing: these are definitions.
use Rattle.std.specs.Prelude.{ℕ, ◌+◌, ◌-◌, ◌≡◌, List, cond}
use Rattle.laws.specs.Order.{same}
use Rattle.text.specs.Text.{bytes, byte_at}
use Rattle.text.specs.Strings.{name_of}
use Rattle.text.specs.Tree.{Bracket, Forest, none, leaf, node}
use Rattle.text.specs.Firsts.{inside_at}
use Rattle.text.specs.Doc.{Name}

-- ---- by rules

-- one of these values, not looking inside them, has the name n, and inside it stand those values
pub data InsideOf (t : List ℕ) (n : Name) : Forest → (inside : Forest) → Type 0 where
  there : {b : Bracket} {ns ne from to : ℕ} {inside rest : Forest} → name_of t ns ne ≡ n → InsideOf t n (node b ns ne from to inside rest) inside
  past_leaf : {kind ns ne from to : ℕ} {rest inside : Forest} → InsideOf t n rest inside → InsideOf t n (leaf kind ns ne from to rest) inside
  past_node : {b : Bracket} {ns ne from to : ℕ} {inner rest inside : Forest} → InsideOf t n rest inside → InsideOf t n (node b ns ne from to inner rest) inside

-- one of them has the name n, which starts right behind this place
pub data NamedAt (t : List ℕ) (n : Name) : Forest → (place : ℕ) → Type 0 where
  leaf_named : {kind ns ne from to place : ℕ} {rest : Forest} → name_of t ns ne ≡ n → ns ≡ place + 1 → NamedAt t n (leaf kind ns ne from to rest) place
  node_named : {b : Bracket} {ns ne from to place : ℕ} {inside rest : Forest} → name_of t ns ne ≡ n → ns ≡ place + 1
      → NamedAt t n (node b ns ne from to inside rest) place
  after_leaf : {kind ns ne from to place : ℕ} {rest : Forest} → NamedAt t n rest place → NamedAt t n (leaf kind ns ne from to rest) place
  after_node : {b : Bracket} {ns ne from to place : ℕ} {inside rest : Forest} → NamedAt t n rest place → NamedAt t n (node b ns ne from to inside rest) place

-- in the text t, of which f is the tree, the key of the language's PatchObject stands so that its opening quote (34) is at this place
pub record KeyStands (t : List ℕ) (f : Forest) (lang key : Name) (place : ℕ) : Type 0 where
  -- what is inside the localizations, and inside the PatchObject
  pub languages : Forest
  pub entries : Forest
  pub localizations : InsideOf t (bytes "localizations") (inside_at f) languages
  pub patch : InsideOf t lang languages entries
  pub stands : NamedAt t key entries place
  pub quote : byte_at t place ≡ 34

-- ---- found

-- the values inside the first of these whose name is n; none if it holds none
unfoldable pub inside_named : List ℕ → Name → Forest → Forest
inside_named t n none = none
inside_named t n (leaf kind ns ne from to rest) = let later = inside_named t n rest in cond (same (name_of t ns ne) n) none later
inside_named t n (node b ns ne from to inside rest) = let later = inside_named t n rest in cond (same (name_of t ns ne) n) inside later

-- the place of the quote before the first of these names that is n
unfoldable pub quote_of : List ℕ → Name → Forest → ℕ
quote_of t n none = 0
quote_of t n (leaf kind ns ne from to rest) = let later = quote_of t n rest in cond (same (name_of t ns ne) n) (ns - 1) later
quote_of t n (node b ns ne from to inside rest) = let later = quote_of t n rest in cond (same (name_of t ns ne) n) (ns - 1) later

-- from a key of the language's PatchObject to its place in the text t, of which f is the tree: the one function that does
unfoldable pub key_place : (t : List ℕ) → (f : Forest) → (lang key : Name) → ℕ
key_place t f lang key = quote_of t key (inside_named t lang (inside_named t (bytes "localizations") (inside_at f)))
