-- Readings by the left-factored form are readings by the grammar as it is written.
use Rattle.std.proofs.Common.{◌≡◌, List, refl}
use Rattle.grammar_core.specs.Forms.{Call}
use Rattle.grammar_core.specs.Spelling.{Room, Spells}
use Rattle.grammar_core.specs.Reading.{Reading, Got, Stop, Wrong, Deep, Reads, IsGot, IsWrong, IsDeep}
use Rattle.grammar_core.specs.Walk.{Run}
use Rattle.grammar_core.proofs.Theorem.{reads}
use Rattle.grammar_core.proofs.Determined.{unique}
use Rattle.grammar_core.proofs.Once.{once}
use Rattle.murphi_ast.specs.declared.token.Token.{Token}
use Rattle.murphi_grammar.specs.Names.{Name}
use Rattle.murphi_grammar.specs.Values.{Value}
use Rattle.murphi_grammar.specs.Grammar.{murphi}
use Rattle.murphi_grammar.specs.Factored.{factored}
use Rattle.murphi_grammar.specs.Tables.{tables}
use Rattle.murphi_grammar.proofs.Decided.{decided}
use Rattle.murphi_grammar.proofs.Agreement.{spelled_there, spelled_back, begun_there, begun_back}

written : (r : Room) (m : Name) (ts : List Token) (a : Reading (Value m) Token) → Reads factored r (Call m) ts a → Reads murphi r (Call m) ts a
unfolding Reads
written r m ts (Got v rest) p = record { front = p.front; is = p.is; spelled = spelled_back p.spelled; ends = λ c d e z. p.ends c d e (begun_there z) }
written r m ts (Stop Wrong rest) p = record { front = p.front; is = p.is; begun = begun_back p.begun; unspelled = λ v z. p.unspelled v (spelled_there z); ends = λ c d e z. p.ends c d e (begun_there z) }
written r m ts (Stop Deep rest) p = record { front = p.front; opens = p.opens; behind = p.behind; is = p.is; next = p.next; begun = begun_back p.begun; deeper = begun_back p.deeper; ends = λ c d e z. p.ends c d e (begun_there z) }

factors : (r : Room) (m : Name) (ts : List Token) (a : Reading (Value m) Token) → Reads murphi r (Call m) ts a → Reads factored r (Call m) ts a
unfolding Reads
factors r m ts (Got v rest) p = record { front = p.front; is = p.is; spelled = spelled_there p.spelled; ends = λ c d e z. p.ends c d e (begun_back z) }
factors r m ts (Stop Wrong rest) p = record { front = p.front; is = p.is; begun = begun_there p.begun; unspelled = λ v z. p.unspelled v (spelled_back z); ends = λ c d e z. p.ends c d e (begun_back z) }
factors r m ts (Stop Deep rest) p = record { front = p.front; opens = p.opens; behind = p.behind; is = p.is; next = p.next; begun = begun_there p.begun; deeper = begun_there p.deeper; ends = λ c d e z. p.ends c d e (begun_back z) }

pub walked : (r : Room) (m : Name) (ts : List Token) (a : Reading (Value m) Token) → Run tables r (Call m) ts a → Reads murphi r (Call m) ts a
walked r m ts a p = written r m ts a (reads factored tables 13 decided p refl)

pub one_way : (r : Room) (m : Name) (ts : List Token) (a c : Reading (Value m) Token) → Reads murphi r (Call m) ts a → Reads murphi r (Call m) ts c → a ≡ c
one_way r m ts a c p q = once factored tables decided.fit r (Call m) ts refl (factors r m ts a p) (factors r m ts c q)

pub one_value : (r q : Room) (m : Name) (us : List Token) (v u : Value m) → Spells murphi r (Call m) us v → Spells murphi q (Call m) us u → v ≡ u
one_value r q m us v u p z = unique factored tables decided.fit (spelled_there p) (spelled_there z) refl refl
