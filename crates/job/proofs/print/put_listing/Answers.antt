use Rattle.std.proofs.Common.{rules}
use Rattle.job.proofs.PrintFacts.{head_in, lines_in, output_in, listing_put}
use Rattle.job.proofs.print.put_listing.Goals as goal

ruleset answers = (rules, head_in, lines_in, output_in, listing_put)

pub put_head-after_head-requires : goal.put_head-after_head-requires
put_head-after_head-requires c = search answers

pub put_lines-after_lines-requires : goal.put_lines-after_lines-requires
put_lines-after_lines-requires c = search answers

pub put_output-requires : goal.put_output-requires
put_output-requires c = search answers

pub returns : goal.returns
returns c = search answers
