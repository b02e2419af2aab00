-- What a call says on paper: the scope's numbers, whatever type the code answers with. Definitions only.
--   refusal n p e    refused with number n, place p and extra e
--   success vs       completed, with the values vs in the scope's order
--   on_paper why     the refusal's line of the table
--   said values r    an answer: the refusal; or what it found, with its values in the scope's order
--   counted r        an answer that found one number
use Rattle.std.specs.Prelude.{ℕ, List, [], ◌∷◌, Result, Ok, Err}
use Rattle.refusals.specs.declared.Refusal.{Refusal}
use Rattle.refusals.specs.Table.{number_of, place_of, extra_of}

pub data Paper : Type 0 where
  refusal : ℕ → ℕ → ℕ → Paper
  success : List ℕ → Paper

abbrev pub on_paper : Refusal → Paper
on_paper why = refusal (number_of why) (place_of why) (extra_of why)

abbrev pub said : {T : Type 0} → (T → List ℕ) → Result T Refusal → Paper
said values (Err why) = on_paper why
said values (Ok x) = success (values x)

abbrev pub counted : Result ℕ Refusal → Paper
counted = said (λ n. n ∷ [])
