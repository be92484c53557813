use Rattle.std.proofs.Common.{refl}
use Rattle.steps.specs.Wrap.{wrapped24, modulo24}
use Rattle.words.specs.Readings.{only_unsigned, only_signed, only_hexadecimal}
use Rattle.words.specs.Tags.{past_field}
use Rattle.fields.specs.Fields.{link_in, past_link, inputs_in, next_in, outputs_in, position_in, action_in, options_in, past_options}
use Rattle.fields.specs.Values.{limited, position_values, set_point_value, link_value, next_value, outputs_value, record_values, sp_values}
use Rattle.replies.specs.Replies.{digits_of}
use Rattle.questions.specs.Questions.{speeds_words, distance_words, parameters_text, counter_word, position_text, version_text, fault_word, fault_text, acknowledged, refused}
use Rattle.texts.specs.Texts.{marks, action_words, option_words, rs_found, rs_text}
use Rattle.orders.specs.Reading.{read_from, command_after}
use Rattle.control.specs.Ticks.{run_outcome}
use Rattle.control.specs.Obeyed.{moves_to}
use Rattle.module.specs.States.{obeyed_state, ticked_state}
use Rattle.module.specs.Lines.{line_outcome}
use Rattle.laws.proofs.worked_examples.Goals as goal

pub returns : goal.returns
unfolding wrapped24 modulo24 only_unsigned only_signed only_hexadecimal past_field link_in past_link inputs_in next_in outputs_in position_in action_in options_in past_options limited position_values set_point_value link_value next_value outputs_value record_values sp_values digits_of speeds_words distance_words parameters_text counter_word position_text version_text fault_word fault_text acknowledged refused marks action_words option_words rs_found rs_text read_from command_after run_outcome moves_to obeyed_state ticked_state line_outcome
returns c = record {
  examples = record {
    distance_taken = refl;
    distance_past = refl;
    distance_signed = refl;
    speed_least = refl;
    speed_low = refl;
    speed_past = refl;
    reserved = refl;
    phase_told = refl;
    two_steps = refl;
    counter_wraps = refl;
  };
  lines = record {
    own = refl;
    broadcast = refl;
    broadcast_refused = refl;
    broadcast_question = refl;
    strangers = refl;
    longest = refl;
    too_long = refl;
    broadcast_too_long = refl;
    held = refl;
    dropped = refl;
    damaged_end = refl;
    damaged_figure = refl;
    damaged_address = refl;
    line_feeds = refl;
    damaged_feed = refl;
    commands = refl;
    words = refl;
    numbers = refl;
    latest = refl;
    not_made = refl;
  };
  commands = record {
    back_by_d = refl;
    forward_by_d = refl;
    to_the_origin = refl;
    to_a_number = refl;
    one_step = refl;
    slope = refl;
    no_distance = refl;
    outputs = refl;
    slow_stop = refl;
    slow_stop_at_once = refl;
    slow_stop_at_rest = refl;
    cut_off = refl;
    power_alone = refl;
    power_new = record { transcript = refl; power = refl };
    power_gm = record { transcript = refl; power = refl };
    power_go = record { transcript = refl; power = refl };
    power_end = record { transcript = refl; power = refl };
    power_gr = record { transcript = refl; power = refl };
    power_mr = record { transcript = refl; power = refl };
    power_back = record { transcript = refl; power = refl };
    wraps_back = refl;
    zeroed = refl;
    parameters = refl;
    position = refl;
    version = refl;
    restarted = refl;
    powered_up = refl;
  };
  sequences = record {
    steps_back = refl;
    steps_forward = refl;
    moves_to = refl;
    goes_home = refl;
    zeroes = refl;
    constant_speed = refl;
    rising_speed = refl;
    plateau_set = refl;
    plateau_unset = refl;
    plateau_lasts = refl;
    plateau_least = refl;
    no_distance = refl;
    movement_stopped = refl;
    constant_stopped = refl;
    outputs = refl;
    wait = refl;
    agrees = refl;
    low_for_high = refl;
    high_for_low = refl;
    both_differ = refl;
    last_input = refl;
    link_passed_over = refl;
    high_at_the_end = refl;
    high_at_the_start = refl;
    linked = refl;
    returns = refl;
    returns_to_the_next = refl;
    returns_to_ns = refl;
    returns_to_54 = refl;
    stops_inside = refl;
    linked_inside = refl;
    linked_to_none = refl;
    fifth = refl;
    power_ss = record { transcript = refl; power = refl };
    power_nu = record { transcript = refl; power = refl };
    power_nt = record { transcript = refl; power = refl };
    power_end = record { transcript = refl; power = refl };
    power_np = record { transcript = refl; power = refl };
    power_nv = record { transcript = refl; power = refl };
    power_nx = record { transcript = refl; power = refl };
    power_nh = record { transcript = refl; power = refl };
    power_nw = record { transcript = refl; power = refl };
    power_nc = record { transcript = refl; power = refl };
    power_nz = record { transcript = refl; power = refl };
    gap = refl;
    goes_on = refl;
    starts = refl;
    starts_again = refl;
    starts_each_time = refl;
    called_only = refl;
    erased_all = refl;
    erased = refl;
    erased_another = refl;
    stopped = refl;
    named = refl;
    named_by_sd = refl;
    starts_afresh = refl;
  };
  busy = record {
    not_in_a_run = refl;
    not_in_a_movement = refl;
    form_first = refl;
    in_a_run = refl;
    in_a_movement = refl;
    run_stopped = refl;
    run_cut_off = refl;
    run_restarted = refl;
    movement_cut_off = refl;
    movement_restarted = refl;
    movement_stopped = refl;
    run_ended_by_power_up = refl;
    movement_ended_by_power_up = refl;
  };
  limits = record {
    start_speed = refl;
    plateau_speed = refl;
    start_to_plateau = refl;
    slope = refl;
    distance = refl;
    counter = refl;
    goal = refl;
    outputs = refl;
    sequences = refl;
    existing = refl;
    set_points = refl;
    sent_back = refl;
    fields = refl;
    numbers = refl;
    next_phases = refl;
    links = refl;
    phase_outputs = refl;
  };
  refusals = record {
    too_long = record { transcript = refl; fault = refl };
    is_damaged = record { transcript = refl; fault = refl };
    unknown = record { transcript = refl; fault = refl };
    missing = record { transcript = refl; fault = refl };
    surplus = record { transcript = refl; fault = refl };
    wrong_form = record { transcript = refl; fault = refl };
    second_number = record { transcript = refl; fault = refl };
    question = record { transcript = refl; fault = refl };
    direction = record { transcript = refl; fault = refl };
    nature = record { transcript = refl; fault = refl };
    set_point = record { transcript = refl; fault = refl };
    tag_alone = record { transcript = refl; fault = refl };
    tag_too_late = record { transcript = refl; fault = refl };
    tag_again = record { transcript = refl; fault = refl };
    is_busy = record { transcript = refl; fault = refl };
    form_before_busy = record { transcript = refl; fault = refl };
    past_limit = record { transcript = refl; fault = refl };
    set_point_past = record { transcript = refl; fault = refl };
    next_past = record { transcript = refl; fault = refl };
    no_phase = record { transcript = refl; fault = refl };
    sequence_first = record { transcript = refl; fault = refl };
    start_past_plateau = record { transcript = refl; fault = refl };
    limit_first = record { transcript = refl; fault = refl };
    absent = record { transcript = refl; fault = refl };
    absent_to_write = record { transcript = refl; fault = refl };
    exists = record { transcript = refl; fault = refl };
    full = record { transcript = refl; fault = refl };
    past_reserve = record { transcript = refl; fault = refl };
    linked_to_none = record { transcript = refl; fault = refl };
    fifth = record { transcript = refl; fault = refl };
  };
}
