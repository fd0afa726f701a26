-- Reading as it goes is reading, in each grammar where one token decides.
use Rattle.std.proofs.Common.{◌≡◌, ℕ, true, List, sym, subst}
use Rattle.grammar_core.specs.Forms.{Call, Tree, Grammar, FormOf}
use Rattle.grammar_core.specs.Spelling.{Room}
use Rattle.grammar_core.specs.Reading.{Wrong, Deep, Reading, IsGot, Reads}
use Rattle.grammar_core.specs.Test.{decides, IsDecided, Tables}
use Rattle.grammar_core.specs.Walk.{Run}
use Rattle.grammar_core.specs.Walk.{Run as u}
use Rattle.grammar_core.proofs.Sound.{fit_of}
use Rattle.grammar_core.proofs.Determined.{seq_test, choice_test, many_test}
use Rattle.grammar_core.proofs.Rules.{token_got, token_wrong, empty_got, seq_got, seq_first_wrong, seq_first_deep, seq_second_wrong, seq_second_deep, left_got, left_wrong, left_deep, right_got, right_wrong, right_deep, many_none, many_got, many_first_wrong, many_first_deep, many_rest_wrong, many_rest_deep, nest_wrong, nest_deep, nest_got, nest_in_wrong, nest_in_deep, call_got, call_wrong, call_deep}

module _ (g : Grammar) (tab : Tables g) (k : ℕ) (is : IsDecided tab k) where
  pub reads : {r : Room} {f : FormOf g} {ts : List g.Token} {ans : Reading (Tree g f) g.Token} → Run tab r f ts ans → decides tab f ≡ true → Reads g r f ts ans
  unfolding Reads
  reads (u.token e h) d = token_got g tab k is _ _ _ _ e h
  reads (u.token_not h) d = token_wrong g tab k is _ _ h
  reads u.empty d = empty_got g tab k is _
  reads (u.seq {a = a} {b = b} p q) d = let w = seq_test g tab a b d in seq_got g tab k is a b _ _ _ d (reads p w.0) (reads q w.1)
  reads (u.seq_first {a = a} {b = b} {k = Wrong} p) d = seq_first_wrong g tab k is a b _ _ d (reads p (seq_test g tab a b d).0)
  reads (u.seq_first {a = a} {b = b} {k = Deep} p) d = seq_first_deep g tab k is a b _ _ d (reads p (seq_test g tab a b d).0)
  reads (u.seq_second {a = a} {b = b} {k = Wrong} p q) d = let w = seq_test g tab a b d in seq_second_wrong g tab k is a b _ _ _ d (reads p w.0) (reads q w.1)
  reads (u.seq_second {a = a} {b = b} {k = Deep} p q) d = let w = seq_test g tab a b d in seq_second_deep g tab k is a b _ _ _ d (reads p w.0) (reads q w.1)
  reads (u.left {a = a} {b = b} h p) d = left_got g tab k is a b _ _ d h (reads p (choice_test g tab a b d).0)
  reads (u.left_stop {a = a} {b = b} {k = Wrong} h p) d = left_wrong g tab k is a b _ _ d h (reads p (choice_test g tab a b d).0)
  reads (u.left_stop {a = a} {b = b} {k = Deep} h p) d = left_deep g tab k is a b _ _ d h (reads p (choice_test g tab a b d).0)
  reads (u.right {a = a} {b = b} h p) d = right_got g tab k is a b _ _ d h (reads p (choice_test g tab a b d).1)
  reads (u.right_stop {a = a} {b = b} {k = Wrong} h p) d = right_wrong g tab k is a b _ _ d h (reads p (choice_test g tab a b d).1)
  reads (u.right_stop {a = a} {b = b} {k = Deep} h p) d = right_deep g tab k is a b _ _ d h (reads p (choice_test g tab a b d).1)
  reads (u.none {a = a} h) d = many_none g tab k is a _ h
  reads (u.more {a = a} p q) d = many_got g tab k is a _ _ _ d (reads p (many_test g tab a d).0) (reads q d)
  reads (u.more_stop {a = a} {k = Wrong} h p) d = many_first_wrong g tab k is a _ _ d h (reads p (many_test g tab a d).0)
  reads (u.more_stop {a = a} {k = Deep} h p) d = many_first_deep g tab k is a _ _ d (reads p (many_test g tab a d).0)
  reads (u.more_behind {a = a} {k = Wrong} p q) d = many_rest_wrong g tab k is a _ _ _ d (reads p (many_test g tab a d).0) (reads q d)
  reads (u.more_behind {a = a} {k = Deep} p q) d = many_rest_deep g tab k is a _ _ _ d (reads p (many_test g tab a d).0) (reads q d)
  reads (u.nest {a = a} e h i p) d = nest_got g tab k is _ a _ _ _ _ e h i (reads p d)
  reads (u.nest_not {a = a} h) d = nest_wrong g tab k is _ a _ h
  reads (u.nest_full {a = a} e h) d = nest_deep g tab k is _ a _ _ _ e h
  reads (u.nest_stop {a = a} {k = Wrong} e h i p) d = nest_in_wrong g tab k is _ a _ _ _ _ e h i (reads p d)
  reads (u.nest_stop {a = a} {k = Deep} e h i p) d = nest_in_deep g tab k is _ a _ _ _ _ e h i (reads p d)
  reads (u.call {r = r} {n = n} {ts = ts} {rest = rest} {t = t} e p) d =
      subst (λ z. IsGot g r (Call n) ts z rest) (sym e) (call_got g tab k is n ts rest (reads p (fit_of g tab n (is.fit n)).decided))
  reads (u.call_stop {n = n} {k = Wrong} p) d = call_wrong g tab k is n _ _ (reads p (fit_of g tab n (is.fit n)).decided)
  reads (u.call_stop {n = n} {k = Deep} p) d = call_deep g tab k is n _ _ (reads p (fit_of g tab n (is.fit n)).decided)
