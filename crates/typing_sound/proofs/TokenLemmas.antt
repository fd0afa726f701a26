-- The numbers of the tokens that bytes spell.
use Rattle.std.proofs.Common.{◌≡◌, ℕ, ◌≤◌, true, List, Option, refl, ap, ◌∙◌}
use Rattle.std.specs.List.{list_all}
use Rattle.std.proofs.lemmas.Bool.{and_from, le-leb}
use Rattle.murphi_ast.specs.declared.token.Span.{Span}
use Rattle.murphi_ast.specs.declared.token.Token.{Token}
use Rattle.murphi_ast.specs.declared.token.Fault.{Fault}
use Rattle.murphi_ast.specs.Bytes.{greatest_number, past}
use Rattle.murphi_ast.specs.Spelling.{Lexeme, Reads, at_end, over_gap, over_token, at_bad_byte, at_no_token, token_at}
use Rattle.typing_sound.specs.Sound.{is_small, TokensAreSmall}

one_small : (at : Span) (l : Lexeme) → l.number ≤ greatest_number → is_small (token_at at l) ≡ true
one_small at l small = le-leb _ _ small

read_small : (at : Span) (bytes : List ℕ) (tokens : List Token) (fault : Option Fault) → Reads at bytes tokens fault → list_all is_small tokens ≡ true
read_small at bytes tokens fault (at_end _ _ is) = ap (list_all is_small) is
read_small at bytes tokens fault (over_gap _ _ gap rest _ _ is gap_is rest_is) = read_small (past gap at) rest tokens fault rest_is
read_small at bytes tokens fault (over_token _ _ spelled rest l token more _ is longest small token_is rest_is) =
    and_from (is_small token) (list_all is_small more) (ap is_small token_is ∙ one_small at l small) (read_small (past spelled at) rest more fault rest_is)
read_small at bytes tokens fault (at_bad_byte _ first more _ bad is) = refl
read_small at bytes tokens fault (at_no_token _ _ _ lacks is) = refl

pub tokens_small : TokensAreSmall
tokens_small bytes tokens spells = read_small _ bytes tokens _ spells
