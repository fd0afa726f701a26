-- The test under which one token decides at each place of a grammar. Mechanism: what a reader trusts is
-- what is spelled and begun; the test is what makes reading as it goes the same.
use Rattle.std.specs.Prelude.{◌≡◌, ℕ, zero, suc, Bool, true, false, ◌&&◌, ◌||◌, nat_eq, List, [], ◌∷◌, ◌++◌, not}
use Rattle.grammar_core.specs.Forms.{Form, One, Empty, Seq, Choice, Many, Nest, Call, Grammar, FormOf}

-- what the test looks at: a number for each symbol, which named forms may be empty, the numbers of the
-- symbols that may begin each, and of those that may carry each on when it is already whole
pub record Tables (g : Grammar) : Type 0 where
  pub number : g.Symbol → ℕ
  pub can_be_empty : g.Name → Bool
  pub starts : g.Name → List ℕ
  pub goes_on : g.Name → List ℕ

-- the number of a token
abbrev pub key : {g : Grammar} → Tables g → g.Token → ℕ
key {g} tab x = tab.number (g.symbol x)

-- whether a number is in a list
unfoldable pub is_in : ℕ → List ℕ → Bool
is_in s [] = false
is_in s (x ∷ xs) = nat_eq s x || is_in s xs

-- a form may be spelled by no token, where the named forms of which this is so are known
abbrev pub nullable_by : {Symbol Name : Type 0} → (Name → Bool) → Form Symbol Name → Bool
nullable_by N (One s) = false
nullable_by N Empty = true
nullable_by N (Seq a b) = nullable_by N a && nullable_by N b
nullable_by N (Choice a b) = nullable_by N a || nullable_by N b
nullable_by N (Many a) = true
nullable_by N (Nest s a) = false
nullable_by N (Call n) = N n

abbrev pub given : Bool → List ℕ → List ℕ
given true xs = xs
given false xs = []

-- the symbols that may begin a form, where those of the named forms are known
abbrev pub firsts_by : {Symbol Name : Type 0} → (Symbol → ℕ) → (Name → Bool) → (Name → List ℕ) → Form Symbol Name → List ℕ
firsts_by K N S (One s) = K s ∷ []
firsts_by K N S Empty = []
firsts_by K N S (Seq a b) = firsts_by K N S a ++ given (nullable_by N a) (firsts_by K N S b)
firsts_by K N S (Choice a b) = firsts_by K N S a ++ firsts_by K N S b
firsts_by K N S (Many a) = firsts_by K N S a
firsts_by K N S (Nest s a) = K s ∷ []
firsts_by K N S (Call n) = S n

abbrev pub nullable : {g : Grammar} → Tables g → FormOf g → Bool
nullable tab f = nullable_by tab.can_be_empty f

abbrev pub firsts : {g : Grammar} → Tables g → FormOf g → List ℕ
firsts tab f = firsts_by tab.number tab.can_be_empty tab.starts f

-- what comes of the rules in so many steps
unfoldable pub null_at : (g : Grammar) → ℕ → g.Name → Bool
null_at g zero n = false
null_at g (suc k) n = nullable_by (null_at g k) (g.rule n)

unfoldable pub starts_at : {g : Grammar} → Tables g → ℕ → g.Name → List ℕ
starts_at tab zero n = []
starts_at {g} tab (suc k) n = firsts_by tab.number (null_at g k) (starts_at tab k) (g.rule n)

-- the symbols that may carry on a form that is already whole
abbrev pub nexts : {g : Grammar} → Tables g → FormOf g → List ℕ
nexts tab (One s) = []
nexts tab Empty = []
nexts tab (Seq a b) = nexts tab b ++ given (nullable tab b) (nexts tab a)
nexts tab (Choice a b) = nexts tab a ++ (nexts tab b ++ given (nullable tab b) (firsts tab a))
nexts tab (Many a) = firsts tab a ++ nexts tab a
nexts tab (Nest s a) = nexts tab a
nexts tab (Call n) = tab.goes_on n

-- no number is in both lists
unfoldable pub apart : List ℕ → List ℕ → Bool
apart [] ys = true
apart (x ∷ xs) ys = not (is_in x ys) && apart xs ys

unfoldable pub within : List ℕ → List ℕ → Bool
within [] ys = true
within (x ∷ xs) ys = is_in x ys && within xs ys

-- one token decides at each place of a form
abbrev pub decides : {g : Grammar} → Tables g → FormOf g → Bool
decides tab (One s) = true
decides tab Empty = true
decides tab (Seq a b) = decides tab a && (decides tab b && apart (nexts tab a) (firsts tab b))
decides tab (Choice a b) = decides tab a && (decides tab b && (not (nullable tab a) && apart (firsts tab a) (firsts tab b)))
decides tab (Many a) = decides tab a && (not (nullable tab a) && apart (nexts tab a) (firsts tab a))
decides tab (Nest s a) = decides tab a
decides tab (Call n) = true

-- one token decides in the right side of a named form, and the tables hold what they are to hold
abbrev pub fits : {g : Grammar} → Tables g → g.Name → Bool
fits {g} tab n =
    decides tab (g.rule n) &&
    ((not (nullable tab (g.rule n)) || tab.can_be_empty n) &&
    (within (firsts tab (g.rule n)) (tab.starts n) && within (nexts tab (g.rule n)) (tab.goes_on n)))

-- the tables hold no more than comes of the rules in so many steps
abbrev pub tight : {g : Grammar} → Tables g → ℕ → g.Name → Bool
tight {g} tab k n = (not (tab.can_be_empty n) || null_at g k n) && within (tab.starts n) (starts_at tab k n)

-- whether a list begins with a symbol of these
abbrev pub head_in : {g : Grammar} → Tables g → List ℕ → List g.Token → Bool
head_in tab set [] = false
head_in tab set (c ∷ d) = is_in (key tab c) set

-- one token decides everywhere in the grammar, and its tables are right
pub record IsDecided {g : Grammar} (tab : Tables g) (k : ℕ) : Type 0 where
  pub fit : (n : g.Name) → fits tab n ≡ true
  pub right : (n : g.Name) → tight tab k n ≡ true
  pub differ : (a b : g.Symbol) → tab.number a ≡ tab.number b → a ≡ b
