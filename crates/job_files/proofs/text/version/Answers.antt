use Rattle.job_files.proofs.TextArms.{version_word, version_number}
use Rattle.job_files.proofs.text.version.Goals as goal

pub returns-then-not-is_word_at-clause-is : goal.returns-then-not-is_word_at-clause-is
returns-then-not-is_word_at-clause-is c = version_word c.args.tokens.now (c.is_word_at.ensures.not c.if-not-is_word_at.true)

pub returns-then-not-is_one_at-clause-is : goal.returns-then-not-is_one_at-clause-is
returns-then-not-is_one_at-clause-is c =
    version_number c.args.tokens.now (c.is_word_at.ensures.yes c.if-not-is_word_at.false) (c.is_one_at.ensures.not c.if-not-is_one_at.true)
