-- The names of the commands.
use Rattle.std.specs.Prelude.{ℕ, cond, List, Some, None, codes, Option}
use Rattle.std.specs.Option.{option_or}
use Rattle.std.specs.Str.{bytes_eq}
use Rattle.orders.specs.declared.names.Name.{Name}
use Rattle.orders.specs.declared.names.Name.TheVariants.{StartSpeed, PlateauSpeed, Slope, Distance, Forward, Back, ZeroCounter, SetCounter, Move, MoveToOrigin, MoveTo, SlowStop, PowerOn, PowerOff, SetOutputs, Create, Erase, Choose, Start, Write, ReadPhase, Restart, ReadParameters, ReadPosition, ReadVersion, ReadFault}

abbrev pub setting_of : List ℕ → Option Name
setting_of w =
    cond (bytes_eq w (codes "VN")) (Some StartSpeed) (
    cond (bytes_eq w (codes "VX")) (Some PlateauSpeed) (
    cond (bytes_eq w (codes "TR")) (Some Slope) (
    cond (bytes_eq w (codes "DR")) (Some Distance) (
    cond (bytes_eq w (codes "D+")) (Some Forward) (
    cond (bytes_eq w (codes "D-")) (Some Back) (
    cond (bytes_eq w (codes "DI")) (Some ZeroCounter) (
    cond (bytes_eq w (codes "DP")) (Some SetCounter) (
    None))))))))

abbrev pub movement_of : List ℕ → Option Name
movement_of w =
    cond (bytes_eq w (codes "GO")) (Some Move) (
    cond (bytes_eq w (codes "GH")) (Some MoveToOrigin) (
    cond (bytes_eq w (codes "GA")) (Some MoveTo) (
    cond (bytes_eq w (codes "GE")) (Some SlowStop) (
    cond (bytes_eq w (codes "GM")) (Some PowerOn) (
    cond (bytes_eq w (codes "GR")) (Some PowerOff) (
    cond (bytes_eq w (codes "GL")) (Some SetOutputs) (
    None)))))))

abbrev pub store_of : List ℕ → Option Name
store_of w =
    cond (bytes_eq w (codes "SN")) (Some Create) (
    cond (bytes_eq w (codes "SE")) (Some Erase) (
    cond (bytes_eq w (codes "SD")) (Some Choose) (
    cond (bytes_eq w (codes "SS")) (Some Start) (
    cond (bytes_eq w (codes "SP")) (Some Write) (
    cond (bytes_eq w (codes "RS")) (Some ReadPhase) (
    None))))))

abbrev pub other_of : List ℕ → Option Name
other_of w =
    cond (bytes_eq w (codes "MR")) (Some Restart) (
    cond (bytes_eq w (codes "RL")) (Some ReadParameters) (
    cond (bytes_eq w (codes "RP")) (Some ReadPosition) (
    cond (bytes_eq w (codes "RV")) (Some ReadVersion) (
    cond (bytes_eq w (codes "RX")) (Some ReadFault) (
    None)))))

abbrev pub name_of : List ℕ → Option Name
name_of w = option_or (option_or (option_or (setting_of w) (movement_of w)) (store_of w)) (other_of w)
