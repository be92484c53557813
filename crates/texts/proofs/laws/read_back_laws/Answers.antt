use Rattle.std.proofs.Common.{refl}
use Rattle.words.specs.Tags.{past_field}
use Rattle.replies.specs.Replies.{digits_of}
use Rattle.texts.specs.ReadBack.{Example}
use Rattle.fields.specs.Fields.{link_in, past_link, inputs_in, next_in, outputs_in, position_in, action_in, options_in, past_options}
use Rattle.fields.specs.Values.{limited, position_values, set_point_value, link_value, next_value, outputs_value, record_values, sp_values}
use Rattle.texts.specs.Texts.{marks, action_words, option_words}
use Rattle.texts.proofs.ReadBack.{reads_back}
use Rattle.texts.proofs.Taken.{takes_written}
use Rattle.texts.proofs.laws.read_back_laws.Goals as goal

example_holds : Example
unfolding past_field digits_of link_in past_link inputs_in next_in outputs_in position_in action_in options_in past_options limited position_values set_point_value link_value next_value outputs_value record_values sp_values marks action_words option_words
example_holds = refl

pub returns : goal.returns
returns c = record { back = reads_back; taken = takes_written; example = example_holds }
