-- The report of an outcome. Its first line is `cmp 1` and its last is `end`; each line ends with a line
-- feed. A formula is `invariant "T"`, `nofault "R"` or `nofault start "T"`, with the titles of its item; a
-- state is a line `name = value` for each variable, in the order of the declarations.
use Rattle.std.specs.Prelude.{ℕ, zero, suc, true, false, List, [], ◌∷◌, ◌++◌, Option, None, Some, slice_get, length, codes}
use Rattle.std.specs.List.{concat}
use Rattle.std.specs.Fmt.{decimal}
use Rattle.murphi_ast.specs.declared.token.Span.{Span}
use Rattle.murphi_ast.specs.declared.rule.RuleDecl.{RuleDecl, Rule, Start, Invariant}
use Rattle.murphi_ast.specs.declared.rule.Protocol.{Protocol}
use Rattle.murphi_ast.specs.State.{Cell, Name, State, variables}
use Rattle.murphi_ast.specs.Title.{RuleKind, StartKind, InvariantKind, title_at}
use Rattle.flat_check.specs.declared.Formula.{Formula}
use Rattle.flat_check.specs.declared.Formula.TheVariants.{Item, StartFault}
use Rattle.flat_check.specs.declared.Finding.{Finding}
use Rattle.flat_check.specs.declared.Finding.TheVariants.{BadStart, BadStep}
use Rattle.cmp_cli.specs.declared.outcome.Refusal.{Refusal}
use Rattle.cmp_cli.specs.declared.outcome.Refusal.TheVariants.{E01, Placed, Bytes}
use Rattle.cmp_cli.specs.declared.outcome.Role.{Role}
use Rattle.cmp_cli.specs.declared.outcome.Role.TheVariants as role
use Rattle.cmp_cli.specs.declared.outcome.Code.{Code}
use Rattle.cmp_cli.specs.declared.outcome.Code.TheVariants as code
use Rattle.cmp_cli.specs.declared.outcome.Outcome.{Outcome}
use Rattle.cmp_cli.specs.declared.outcome.Outcome.TheVariants.{Proved, NotInductive, Refused}

-- a line, with its line feed
abbrev pub Line : Type 0
Line = List ℕ

-- the line of this text
abbrev pub line : List ℕ → Line
line text = text ++ 10 ∷ []

-- a text in quotation marks
abbrev pub quoted : List ℕ → List ℕ
quoted text = 34 ∷ text ++ 34 ∷ []

-- the title of item k
abbrev pub item_title : List RuleDecl → ℕ → Name
item_title items k = title_of (slice_get items k)
  where
    title_of : Option RuleDecl → Name
    title_of (Some (Rule title guard locals body at)) = title_at items RuleKind k title
    title_of (Some (Start title locals body at)) = title_at items StartKind k title
    title_of (Some (Invariant title body at)) = title_at items InvariantKind k title
    title_of _ = []

-- what kind of formula it is
abbrev pub formula_word : List RuleDecl → Formula → List ℕ
formula_word items (Item k) = word_of (slice_get items k)
  where
    word_of : Option RuleDecl → List ℕ
    word_of (Some (Invariant title body at)) = codes "invariant "
    word_of _ = codes "nofault "
formula_word items (StartFault k) = codes "nofault start "

-- the number of the item that a formula speaks of
abbrev pub item_of : Formula → ℕ
item_of (Item k) = k
item_of (StartFault k) = k

-- a line that names a formula
abbrev pub formula_line : List ℕ → List RuleDecl → Formula → Line
formula_line head items formula = line (head ++ formula_word items formula ++ quoted (item_title items (item_of formula)))

-- the claim of item k, where it is an invariant
abbrev pub claim_at : List RuleDecl → ℕ → List Line
claim_at items k = claim_of (slice_get items k)
  where
    claim_of : Option RuleDecl → List Line
    claim_of (Some (Invariant title body at)) = formula_line (codes "claim ") items (Item k) ∷ []
    claim_of _ = []

-- the claims of the first n items, in text order
abbrev pub claims_of_first : List RuleDecl → ℕ → List Line
claims_of_first items zero = []
claims_of_first items (suc n) = claims_of_first items n ++ claim_at items n

-- what a cell holds
abbrev pub cell_text : Cell → List ℕ
cell_text None = codes "undefined"
cell_text (Some false) = codes "false"
cell_text (Some true) = codes "true"

-- the lines of these variables with these cells
abbrev pub cell_lines : List Name → State → List Line
cell_lines [] cells = []
cell_lines (v ∷ vs) [] = []
cell_lines (v ∷ vs) (c ∷ cs) = line (v ++ codes " = " ++ cell_text c) ∷ cell_lines vs cs

-- a state: a heading, and the cells
abbrev pub state_lines : List ℕ → Protocol → State → List Line
state_lines heading p s = line heading ∷ cell_lines (variables p) s

-- a place: its line, a colon, and its column
abbrev pub place_text : Span → List ℕ
place_text at = decimal at.line ++ 58 ∷ decimal at.column

-- how a report names one of the files
abbrev pub role_word : Role → List ℕ
role_word role.Protocol = codes "protocol"
role_word role.Lemmas = codes "lemmas"
role_word role.Flows = codes "flows"
role_word role.Path = codes "path"
role_word role.Script = codes "script"

-- how a report names what is wrong at a place
abbrev pub code_word : Code → List ℕ
code_word code.E04 = codes "E04"
code_word code.E10 = codes "E10"

-- what is said of a refusal
abbrev pub refusal_text : Refusal → List ℕ
refusal_text E01 = codes "E01"
refusal_text (Placed code role at) = code_word code ++ codes " " ++ role_word role ++ codes " " ++ place_text at
refusal_text (Bytes role limit) = codes "E16 " ++ role_word role ++ codes " bytes over " ++ decimal limit

-- a bad start: the formula that is violated, the start, and the state that it leaves
abbrev pub bad_start_lines : Protocol → ℕ → State → Formula → List Line
bad_start_lines p k s formula =
    line (codes "answer refuted")
    ∷ line (codes "node none")
    ∷ formula_line (codes "violates ") p.rules formula
    ∷ line (codes "start " ++ quoted (item_title p.rules k))
    ∷ state_lines (codes "state") p s

-- a firing: the rule, the state that it sees, and the state after it
abbrev pub firing_lines : Protocol → State → ℕ → State → List Line
firing_lines p from k to =
    line (codes "fire " ++ quoted (item_title p.rules k))
    ∷ state_lines (codes "wide") p from
    ++ state_lines (codes "state") p to

-- a bad step: the formula that is violated, the state before the step, and the firing
abbrev pub bad_step_lines : Protocol → State → ℕ → State → Formula → List Line
bad_step_lines p from k to formula =
    line (codes "answer not inductive")
    ∷ line (codes "node none")
    ∷ formula_line (codes "violates ") p.rules formula
    ∷ state_lines (codes "from") p from
    ++ firing_lines p from k to

-- what is found, with the formula that it violates
abbrev pub finding_lines : Protocol → Finding → Formula → List Line
finding_lines p (BadStart k s) formula = bad_start_lines p k s formula
finding_lines p (BadStep from k to) formula = bad_step_lines p from k to formula

-- a proved protocol: that nothing faults, and each invariant
abbrev pub proved_lines : Protocol → List Line
proved_lines p =
    line (codes "answer proved")
    ∷ line (codes "node none")
    ∷ line (codes "claim nofault")
    ∷ claims_of_first p.rules (length p.rules)

-- the lines between the first and the last
abbrev pub answer_lines : Outcome → List Line
answer_lines (Proved p) = proved_lines p
answer_lines (NotInductive p finding formula) = finding_lines p finding formula
answer_lines (Refused refusal) = line (codes "refused " ++ refusal_text refusal) ∷ []

-- the lines of the report
abbrev pub report_lines : Outcome → List Line
report_lines outcome = line (codes "cmp 1") ∷ answer_lines outcome ++ line (codes "end") ∷ []

-- the report, as bytes
abbrev pub report : Outcome → List ℕ
report outcome = concat (report_lines outcome)
