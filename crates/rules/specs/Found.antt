-- What the answers of a search are to mean, where it looks at the rules below m. Definitions only.
--   AllMatches m rs h n v    the first n of the words v are the numbers below m whose rules match h, rising
--   FirstMatch m rs h n a    n is the lowest number below m whose rule matches h, and a is that rule's action
--   NoMatch m rs h           no rule below m matches h
use Rattle.std.specs.Prelude.{ℕ, ◌≤◌, ◌<◌, true, false, ◌≡◌, ◌↔◌, List, length, take}
use Rattle.facts.specs.Lists.{has, rises}
use Rattle.rules.specs.Words.{action_of}
use Rattle.rules.specs.Matching.{matches}

pub record AllMatches (m : ℕ) (rs h : List ℕ) (n : ℕ) (v : List ℕ) : Type 0 where
  pub there : n ≤ length v
  pub listed : (r : ℕ) → (has (take n v) r ≡ true) ↔ ((r < m) × (matches rs h r ≡ true))
  pub rising : rises 0 (take n v) ≡ true

pub record FirstMatch (m : ℕ) (rs h : List ℕ) (n a : ℕ) : Type 0 where
  pub below : n < m
  pub hits : matches rs h n ≡ true
  pub lowest : (q : ℕ) → q < n → matches rs h q ≡ false
  pub action : a ≡ action_of rs n

abbrev pub NoMatch : ℕ → List ℕ → List ℕ → Type 0
NoMatch m rs h = (r : ℕ) → r < m → matches rs h r ≡ false
