-- The bits of the counter make a system.
use Rattle.std.proofs.Common.{◌≡◌, ◌≢◌, ◌<◌, ◌≤◌, ◌+◌, ◌-◌, ◌/◌, ◌*◌, ◌++◌, ◌∷◌, [], ℕ, List, length, get_or, sym, ◌∙◌, ap, subst, inl, inr, arith, length-append}
use Rattle.std.specs.Prelude.{AllPairs, All}
use Rattle.std.proofs.lemmas.Bool.{cases_lt}
use Rattle.std.proofs.lemmas.List.{get_or_append_left, get_or-append_right}
use Rattle.clause_core.specs.declared.literal.Lit.{Lit}
use Rattle.clause_core.specs.Literal.{variable_of}
use Rattle.clause_core.specs.Formula.{IsInRange}

-- eight literals of the variables from `from` on
pub record AreEight (from : ℕ) (lits : List Lit) : Type 0 where
  pub size : length lits ≡ 8
  pub each : (k : ℕ) (d : Lit) → k < 8 → variable_of (get_or lits k d) ≡ from + k

pub eight_range : (from n : ℕ) (lits : List Lit) → from + 8 ≤ n → AreEight from lits → IsInRange n lits
eight_range from n lits h e k d b =
    let s : length lits ≡ 8 = e.size in
    let v : variable_of (get_or lits k d) ≡ from + k = e.each k d (omega arith) in
    subst (λ m. m < n) (sym v) (omega arith)

at_place : (cs ns : List Lit) → AreEight 0 cs → AreEight 8 ns → (k : ℕ) (d : Lit) → k < 16 → variable_of (get_or (cs ++ ns) k d) ≡ k
at_place cs ns c n k d b = elim (cases_lt k 8) [
  | inl lt ↦
      let s : length cs ≡ 8 = c.size in
      let v : variable_of (get_or cs k d) ≡ 0 + k = c.each k d lt in
      ap variable_of (get_or_append_left cs ns d k (omega arith)) ∙ v ∙ omega arith
  | inr le ↦
      let v : variable_of (get_or ns (k - 8) d) ≡ 8 + (k - 8) = n.each (k - 8) d (omega arith) in
      ap variable_of (get_or-append_right cs ns 8 k d c.size le) ∙ v ∙ omega arith
]

pub eight_distinct : (cs ns : List Lit) → AreEight 0 cs → AreEight 8 ns → AllPairs (λ l m. variable_of l ≢ variable_of m) (cs ++ ns)
eight_distinct cs ns c n i j d h b =
    let s : length (cs ++ ns) ≡ 16 = length-append cs ns ∙ both _ _ c.size n.size in
    λ e. below (sym (at_place cs ns c n i d (omega arith)) ∙ e ∙ at_place cs ns c n j d (omega arith)) where
      both : (m k : ℕ) → m ≡ 8 → k ≡ 8 → m + k ≡ 16
      both m k e f = omega arith

      below : i ≡ j → ⊥
      below e = absurd (omega arith)
