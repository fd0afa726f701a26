use Rattle.other_abstract.proofs.TestLemmas.{may_in, may_has}
use Rattle.other_abstract.proofs.SomeLemmas.{conjunction, disjunction}
use Rattle.other_abstract.proofs.laws.tests_say_what_may_be.Goals as goal

pub returns-clause-tests : goal.returns-clause-tests
returns-clause-tests c W w env t p =
    (λ h. let r = may_in W w env t p h in (r.value, r.may, r.passes), λ q. may_has W w env t p q.0 q.1 q.2)

pub returns-clause-conjunctions : goal.returns-clause-conjunctions
returns-clause-conjunctions c W w env parts b = conjunction W w env parts b

pub returns-clause-disjunctions : goal.returns-clause-disjunctions
returns-clause-disjunctions c W w env parts b = disjunction W w env parts b
