pub mod MotorLin
